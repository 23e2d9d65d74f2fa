-- The payload of a sheet, with lent output: the answer, and the output afterwards. Lines are taken in order, and the first faulty one decides.
use Rattle.layout.specs.Refusals.{Answer}
use Rattle.std.specs.Prelude.{ℕ, ◌+◌, min, List, [], ◌∷◌, length, eqb, Option, Some, None, Ok}
use Rattle.layout.specs.Checked.{Checked, check, then}
use Rattle.layout.specs.declared.refusal.Refusal.{Refusal}
use Rattle.layout.specs.declared.refusal.Refusal.TheVariants.{WontFit, BadLine}
use Rattle.table.specs.declared.tag.Tag.{Tag}
use Rattle.format.specs.Encoding.{encode, within_limits}
use Rattle.format.specs.Output.{answer, output_after}
use Rattle.format.specs.Records.{Record, sections}
use Rattle.format.specs.Sections.{Section}
use Rattle.sheet.specs.Fields.{newline}
use Rattle.sheet.specs.Lines.{Parts, split, read_line}

-- 20 with a line's number; one past 32 bits stops at 4,294,967,295
abbrev pub bad_line : ℕ → Refusal
bad_line n = BadLine (min n 4294967295)

-- The records of lines, the first of which has a number and stands after a line of the previous tag. Each part but the last is closed by a newline;
-- the last is not, and so must be empty.
unfoldable pub read_lines : ℕ → Option Tag → List ℕ → List (List ℕ) → Checked (List Record)
read_lines n previous last [] = check (eqb (length last) 0) (bad_line n) (λ _. Ok [])
read_lines n previous first (next ∷ rest) =
    then (read_line (bad_line n) previous first) (λ r.
    then (read_lines (n + 1) (Some r.tag) next rest) (λ rs.
    Ok (r ∷ rs)))

-- the records of a sheet
unfoldable pub sheet_records : List ℕ → Checked (List Record)
sheet_records s =
    let p : Parts = split newline s in
    read_lines 1 None p.first p.rest

-- the payload of a sheet: the sections of its lines, within the limits, encoded
unfoldable pub from_sheet : List ℕ → Checked (List ℕ)
from_sheet s =
    then (sheet_records s) (λ rs.
    let ss : List Section = sections rs in
    check (within_limits ss) WontFit (λ _.
    Ok (encode ss)))

-- what the call answers where so many bytes are lent
unfoldable pub from_sheet_answer : List ℕ → ℕ → Answer
from_sheet_answer s room = answer (from_sheet s) room

-- the lent output after the call
unfoldable pub from_sheet_output : List ℕ → List ℕ → List ℕ
from_sheet_output s output = output_after (from_sheet s) output
