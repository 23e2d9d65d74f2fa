-- What sections say, record by record: a section's own record, then one for each of its entries. A row holds a record in its way, and so does a
-- line of a sheet.
use Rattle.std.specs.Prelude.{ℕ, Bool, true, ◌&&◌, ◌||◌, get_or, Option, Some}
use mathlib.Core.List.{List, [], ◌∷◌, ◌++◌, map, flat_map}
use Rattle.table.specs.Tags.{follows, begins_section, leading_by}
use Rattle.table.specs.declared.tag.Tag.{Tag}
use Rattle.table.specs.declared.tag.Tag.TheVariants as tag
use Rattle.format.specs.Sections.{Name, Pair, Section, plain, packed, names, arguments, unknown}

pub record Record : Type 0 where
  pub tag : Tag
  -- of contents the header field; of packed ones the count and the uncompressed bytes too; an unknown kind; a name's content size
  pub numbers : List ℕ
  -- the bytes of a section that has no entries; the text of an entry, and the value of a pair
  pub texts : List (List ℕ)

abbrev pub says : Tag → List ℕ → List (List ℕ) → Record
says tag numbers texts = record { tag = tag; numbers = numbers; texts = texts }

-- how many numbers the record of a tag has
abbrev pub number_count : Tag → ℕ
number_count tag.PlainContents = 1
number_count tag.PackedContents = 3
number_count tag.Names = 0
number_count tag.Arguments = 0
number_count tag.Unknown = 1
number_count tag.Content = 0
number_count tag.Name = 1
number_count tag.Pair = 0

-- how many texts
abbrev pub text_count : Tag → ℕ
text_count tag.PlainContents = 0
text_count tag.PackedContents = 1
text_count tag.Names = 0
text_count tag.Arguments = 0
text_count tag.Unknown = 1
text_count tag.Content = 1
text_count tag.Name = 1
text_count tag.Pair = 2

-- whether a record of a tag may stand after one of the previous tag, by the rule of rows: a section's own may follow any, an entry's its section's or
-- one of its own tag. The previous is None before the first
abbrev pub is_placed : Option Tag → Tag → Bool
is_placed previous own = begins_section own || follows own previous

-- whether records stand so, the first after one of the previous tag
unfoldable pub in_order : Option Tag → List Record → Bool
in_order previous [] = true
in_order previous (r ∷ rs) = is_placed previous r.tag && in_order (Some r.tag) rs

-- ---- the records of sections

abbrev pub content_record : List ℕ → Record
content_record text = says tag.Content [] (text ∷ [])

abbrev pub name_record : Name → Record
name_record n = says tag.Name (n.content_size ∷ []) (n.text ∷ [])

abbrev pub pair_record : Pair → Record
pair_record p = says tag.Pair [] (p.name ∷ p.value ∷ [])

unfoldable pub records_of : Section → List Record
records_of (plain header texts) = says tag.PlainContents (header ∷ []) [] ∷ map content_record texts
records_of (packed header stream count uncompressed) = says tag.PackedContents (header ∷ count ∷ uncompressed ∷ []) (stream ∷ []) ∷ []
records_of (names ns) = says tag.Names [] [] ∷ map name_record ns
records_of (arguments ps) = says tag.Arguments [] [] ∷ map pair_record ps
records_of (unknown kind bytes) = says tag.Unknown (kind ∷ []) (bytes ∷ []) ∷ []

unfoldable pub records : List Section → List Record
records ss = flat_map records_of ss

-- ---- the sections of records

-- the number and the text of a record at an index
abbrev pub number : ℕ → Record → ℕ
number k r = get_or r.numbers k 0

abbrev pub text : ℕ → Record → List ℕ
text k r = get_or r.texts k []

abbrev pub name_of : Record → Name
name_of r = record { text = text 0 r; content_size = number 0 r }

abbrev pub pair_of : Record → Pair
pair_of r = record { name = text 0 r; value = text 1 r }

-- the records of a tag that stand at the start, each as f has it; of no tag there are none
unfoldable pub leading : {A : Type 0} → Option Tag → (Record → A) → List Record → List A
leading tag f rs = leading_by (λ (r : Record). Some r.tag) tag f rs

-- the section that a record of a tag begins, with the entries that follow it; any other record begins none
unfoldable pub begun : Tag → Record → List Record → List Section
begun tag.PlainContents r rs = plain (number 0 r) (leading (Some tag.Content) (text 0) rs) ∷ []
begun tag.PackedContents r rs = packed (number 0 r) (text 0 r) (number 1 r) (number 2 r) ∷ []
begun tag.Names r rs = names (leading (Some tag.Name) name_of rs) ∷ []
begun tag.Arguments r rs = arguments (leading (Some tag.Pair) pair_of rs) ∷ []
begun tag.Unknown r rs = unknown (number 0 r) (text 0 r) ∷ []
begun tag.Content r rs = []
begun tag.Name r rs = []
begun tag.Pair r rs = []

unfoldable pub sections : List Record → List Section
sections [] = []
sections (r ∷ rs) = begun r.tag r rs ++ sections rs
