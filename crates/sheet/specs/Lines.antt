-- A record as a line of a sheet: a word that tells its tag, its numbers, its bytes or texts, parted by tabs and closed by a newline. And a line as
-- a record.
use Rattle.std.specs.Prelude.{ℕ, ◌+◌, Bool, true, false, cond, not, ◌&&◌, ◌||◌, eqb, length, take, drop, Option, Some, None, Err, Ok}
use mathlib.Core.List.{List, [], ◌∷◌, ◌++◌, map, flat_map}
use Rattle.layout.specs.Checked.{Checked, check, then}
use Rattle.layout.specs.Kinds.{unknown_rule}
use Rattle.layout.specs.TextCheck.{check_whole}
use Rattle.layout.specs.declared.refusal.Refusal.{Refusal}
use Rattle.table.specs.Tags.{same_tag, begins_section}
use Rattle.table.specs.declared.tag.Tag.{Tag}
use Rattle.table.specs.declared.tag.Tag.TheVariants as tag
use Rattle.format.specs.Display.{ascii, decimal}
use Rattle.format.specs.Records.{Record, says, number_count, text_count, is_placed, number, text}
use Rattle.sheet.specs.Fields.{tab, newline, all, is_number, number_of, hex_pairs, is_hex_pairs, bytes_of_pairs, escape, is_escaped, unescape}

-- the word that a line of a tag begins with
abbrev pub word : Tag → List ℕ
word tag.PlainContents = ascii "contents"
word tag.PackedContents = ascii "packed"
word tag.Names = ascii "names"
word tag.Arguments = ascii "arguments"
word tag.Unknown = ascii "unknown"
word tag.Content = ascii "content"
word tag.Name = ascii "name"
word tag.Pair = ascii "pair"

-- ---- out

-- the bytes of a section are hex pairs, and the texts of an entry are escaped
abbrev pub shown : Tag → List ℕ → List ℕ
shown tag s = cond (begins_section tag) (hex_pairs s) (escape s)

-- the fields after the word, each after a tab
abbrev pub fields : Record → List (List ℕ)
fields r = map decimal r.numbers ++ map (shown r.tag) r.texts

abbrev pub parted : List (List ℕ) → List ℕ
parted fs = flat_map (λ (f : List ℕ). tab ∷ f) fs

unfoldable pub line : Record → List ℕ
line r = word r.tag ++ (parted (fields r) ++ (newline ∷ []))

-- ---- in

-- what a separator leaves of bytes: the part before the first one, and a part after each
pub record Parts : Type 0 where
  pub first : List ℕ
  pub rest : List (List ℕ)

abbrev pub parts : List ℕ → List (List ℕ) → Parts
parts first rest = record { first = first; rest = rest }

unfoldable pub split : ℕ → List ℕ → Parts
split separator [] = parts [] []
split separator (b ∷ s) =
    let p : Parts = split separator s in
    elim (eqb b separator) [ true ↦ parts [] (p.first ∷ p.rest) | false ↦ parts (b ∷ p.first) p.rest ]

-- whether two lists of bytes are the same
unfoldable pub same : List ℕ → List ℕ → Bool
same [] [] = true
same [] (b ∷ t) = false
same (a ∷ s) [] = false
same (a ∷ s) (b ∷ t) = eqb a b && same s t

-- the tag among some that has a word; None where none has
unfoldable pub tag_among : List Tag → List ℕ → Option Tag
tag_among [] w = None
tag_among (t ∷ ts) w = cond (same w (word t)) (Some t) (tag_among ts w)

abbrev pub tags : List Tag
tags = tag.PlainContents ∷ tag.PackedContents ∷ tag.Names ∷ tag.Arguments ∷ tag.Unknown ∷ tag.Content ∷ tag.Name ∷ tag.Pair ∷ []

abbrev pub tag_of_word : List ℕ → Option Tag
tag_of_word w = tag_among tags w

-- whether a field is one of the bytes or texts of a line of a tag, and what it then says
abbrev pub is_shown : Tag → List ℕ → Bool
is_shown tag f = cond (begins_section tag) (is_hex_pairs f) (is_escaped f)

abbrev pub said : Tag → List ℕ → List ℕ
said tag f = cond (begins_section tag) (bytes_of_pairs f) (unescape f)

-- what a line of a tag says by its fields
abbrev pub said_by : Tag → List (List ℕ) → Record
said_by tag fs = says tag (map number_of (take (number_count tag) fs)) (map (said tag) (drop (number_count tag) fs))

-- whether a line of a tag has just its fields, and each of them is one
unfoldable pub is_made : Tag → List (List ℕ) → Bool
is_made tag fs =
    eqb (length fs) (number_count tag + text_count tag) && all is_number (take (number_count tag) fs) && all (is_shown tag) (drop (number_count tag) fs)

-- what the rule of rows asks of an unknown section: a kind from 3 to 65,535, and a multiple of 4 bytes
abbrev pub is_ruled : Record → Bool
is_ruled r = not (same_tag (Some r.tag) (Some tag.Unknown)) || unknown_rule (number 0 r) (length (text 0 r))

-- texts in order: the first fault counts
unfoldable pub check_all : List (List ℕ) → Checked (Unit {0})
check_all [] = Ok tt
check_all (t ∷ ts) = then (check_whole t) (λ _. check_all ts)

-- the texts of a record; what a section's own record holds is bytes
abbrev pub texts_of : Record → List (List ℕ)
texts_of r = cond (begins_section r.tag) [] r.texts

-- the record of a line of a tag, with its fields, after a line of the previous tag: first the line, with the refusal that a fault of it has, then
-- its texts. A line of no tag is at fault
unfoldable pub read_fields : Refusal → Option Tag → Option Tag → List (List ℕ) → Checked Record
read_fields refusal previous None fs = Err refusal
read_fields refusal previous (Some tag) fs =
    let r : Record = said_by tag fs in
    check (is_made tag fs && is_placed previous tag && is_ruled r) refusal (λ _.
    then (check_all (texts_of r)) (λ _.
    Ok r))

-- the record of a line without its newline: its first part is its word, the others are its fields
unfoldable pub read_line : Refusal → Option Tag → List ℕ → Checked Record
read_line refusal previous bytes =
    let p : Parts = split tab bytes in
    read_fields refusal previous (tag_of_word p.first) p.rest
