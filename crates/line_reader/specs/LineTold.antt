-- What the check of a line tells.
use Rattle.std.specs.Prelude.{ℕ, ◌%◌, Bool, true, false, ◌&&◌, List, [], ◌∷◌, leb, eqb, length, get_or, Option, None, Some}
use Rattle.layout.specs.Checked.{Checked, taking}
use Rattle.table.specs.declared.tag.Tag.{Tag}
use Rattle.table.specs.declared.tag.Tag.TheVariants as tag
use Rattle.format.specs.Records.{Record, text}
use Rattle.sheet.specs.Fields.{is_number, number_of, bytes_of_pairs}
use Rattle.line_reader.specs.Sizes.{bytes_told, text_told}
use Rattle.line_reader.specs.declared.line.LineSizes.{LineSizes}

abbrev pub sizes : Tag → ℕ → ℕ → LineSizes
sizes tag first second = record { tag = tag; first = first; second = second }

abbrev pub line_told : Checked Record → Checked LineSizes
line_told = taking (λ r. sizes r.tag (length (text 0 r)) (length (text 1 r)))

-- ---- as the code goes; that it comes to the same is a theorem (proofs/LineLaws.antt)

-- a line of a tag, where a test held and each field has its size
abbrev pub sized_told : Tag → Bool → Option ℕ → Option ℕ → Option LineSizes
sized_told tag true (Some first) (Some second) = Some (sizes tag first second)
sized_told tag true (Some first) None = None
sized_told tag true None second = None
sized_told tag false first second = None

-- a kind of an unknown section
abbrev pub is_kind : List ℕ → Bool
is_kind f = is_number f && (leb 3 (number_of f) && leb (number_of f) 65535)

-- of as many fields as a line of a tag has
unfoldable pub line_sizes : Tag → List (List ℕ) → Option LineSizes
line_sizes tag.PlainContents fs = sized_told tag.PlainContents (is_number (get_or fs 0 [])) (Some 0) (Some 0)
line_sizes tag.PackedContents fs =
    sized_told tag.PackedContents (is_number (get_or fs 0 []) && is_number (get_or fs 1 []) && is_number (get_or fs 2 [])) (bytes_told (get_or fs 3 [])) (Some 0)
line_sizes tag.Names fs = sized_told tag.Names true (Some 0) (Some 0)
line_sizes tag.Arguments fs = sized_told tag.Arguments true (Some 0) (Some 0)
line_sizes tag.Unknown fs =
    sized_told tag.Unknown (is_kind (get_or fs 0 []) && eqb (length (bytes_of_pairs (get_or fs 1 [])) % 4) 0) (bytes_told (get_or fs 1 [])) (Some 0)
line_sizes tag.Content fs = sized_told tag.Content true (text_told 0 (get_or fs 0 [])) (Some 0)
line_sizes tag.Name fs = sized_told tag.Name (is_number (get_or fs 0 [])) (text_told 0 (get_or fs 1 [])) (Some 0)
line_sizes tag.Pair fs = sized_told tag.Pair true (text_told 0 (get_or fs 0 [])) (text_told 0 (get_or fs 1 []))

-- the fields that are texts
unfoldable pub text_fields : Tag → List (List ℕ) → List (List ℕ)
text_fields tag.Content fs = get_or fs 0 [] ∷ []
text_fields tag.Name fs = get_or fs 1 [] ∷ []
text_fields tag.Pair fs = get_or fs 0 [] ∷ get_or fs 1 [] ∷ []
text_fields tag.PlainContents fs = []
text_fields tag.PackedContents fs = []
text_fields tag.Names fs = []
text_fields tag.Arguments fs = []
text_fields tag.Unknown fs = []
