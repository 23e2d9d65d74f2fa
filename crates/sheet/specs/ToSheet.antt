-- The sheet of a payload, with lent output: the answer, and the output afterwards.
use Rattle.layout.specs.Refusals.{Answer}
use Rattle.std.specs.Prelude.{ℕ, Ok}
use mathlib.Core.List.{List, [], flat_map}
use Rattle.layout.specs.Checked.{Checked, then}
use Rattle.format.specs.Output.{answer, output_after}
use Rattle.format.specs.Parse.{parse}
use Rattle.format.specs.Records.{records}
use Rattle.format.specs.Resolve.{resolve}
use Rattle.format.specs.Sections.{Section}
use Rattle.sheet.specs.Lines.{line}

-- sections as a sheet: a line for each of their records
unfoldable pub sheet : List Section → List ℕ
sheet ss = flat_map line (records ss)

-- the sheet of a payload, or reading's refusal
unfoldable pub to_sheet : List ℕ → Checked (List ℕ)
to_sheet payload =
    then (parse payload) (λ rows.
    then (resolve payload [] rows) (λ sections.
    Ok (sheet sections)))

-- what the call answers where so many bytes are lent
unfoldable pub to_sheet_answer : List ℕ → ℕ → Answer
to_sheet_answer payload room = answer (to_sheet payload) room

-- the lent output after the call
unfoldable pub to_sheet_output : List ℕ → List ℕ → List ℕ
to_sheet_output payload output = output_after (to_sheet payload) output
