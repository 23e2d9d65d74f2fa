-- The lines that bytes are, of a sheet or of the rest of one, as the records that they say. It is how the second pass goes; that these are the records of
-- the sheet is a theorem (proofs/RecordsFrom.antt).
use Rattle.std.specs.Prelude.{ℕ, true, List, [], ◌∷◌, map, ◌≡◌, Option, Some, None, unwrap_or}
use Rattle.table.specs.declared.tag.Tag.{Tag}
use Rattle.table.specs.declared.tag.Tag.TheVariants.{Pair}
use Rattle.format.specs.Records.{Record, in_order, sections}
use Rattle.format.specs.Sections.{Section}
use Rattle.sheet.specs.Fields.{tab, newline}
use Rattle.sheet.specs.Lines.{split, tag_of_word, said_by, is_made, is_ruled}

-- The tag, the fields and the record of a line without its newline. A line that was checked has a tag; any stands for that of another.
abbrev pub tag_in : List ℕ → Tag
tag_in line = unwrap_or (tag_of_word (split tab line).first) Pair

abbrev pub fields_of : List ℕ → List (List ℕ)
fields_of line = (split tab line).rest

abbrev pub record_of : List ℕ → Record
record_of line = said_by (tag_in line) (fields_of line)

-- of the parts that newlines leave, those that are closed; the last is not
unfoldable pub closed_parts : List ℕ → List (List ℕ) → List (List ℕ)
closed_parts last [] = []
closed_parts first (next ∷ rest) = first ∷ closed_parts next rest

abbrev pub records_in : List ℕ → List Record
records_in s = map record_of (closed_parts (split newline s).first (split newline s).rest)

abbrev pub sections_in : List ℕ → List Section
sections_in s = sections (records_in s)

-- the records that are left, where the first of them is made and the others are still to be: none where there is no first
abbrev pub ahead_of : Option Record → List Record → List Record
ahead_of None rs = []
ahead_of (Some r) rs = r ∷ rs

-- what the first pass found of a line: it has a tag and just its fields, each of which is one, and it follows the rule of unknown sections
abbrev pub LineChecked : List ℕ → Type 0
LineChecked line =
    (tag_of_word (split tab line).first ≡ Some (tag_in line))
    × (is_made (tag_in line) (fields_of line) ≡ true)
    × (is_ruled (record_of line) ≡ true)

-- and of all lines; what follows the last newline is empty
unfoldable pub LinesChecked : List ℕ → List (List ℕ) → Type 0
LinesChecked last [] = last ≡ []
LinesChecked first (next ∷ rest) = LineChecked first × LinesChecked next rest

-- of those that bytes are
abbrev pub AllChecked : List ℕ → Type 0
AllChecked s = LinesChecked (split newline s).first (split newline s).rest

-- and the first is a section's, if there is one
abbrev pub AllOrdered : List ℕ → Type 0
AllOrdered s = AllChecked s × (in_order None (records_in s) ≡ true)
