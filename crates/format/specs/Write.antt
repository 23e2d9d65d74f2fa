-- The job of writing, with lent output: its answer, and the output afterwards.
use Rattle.layout.specs.Refusals.{Answer}
use Rattle.std.specs.Prelude.{ℕ, ◌%◌, List, eqb, length, Ok}
use Rattle.layout.specs.Checked.{Checked, check, then}
use Rattle.format.specs.Encoding.{encode, within_limits}
use Rattle.table.specs.Rows.{width, rows_of}
use Rattle.table.specs.declared.row.Row.{Row}
use Rattle.layout.specs.declared.refusal.Refusal.TheVariants.{BadRow, WontFit}
use Rattle.format.specs.Resolve.{resolve}
use Rattle.format.specs.Output.{answer, output_after}

-- rows as a payload: their sections, within the limits, encoded
unfoldable pub written : List ℕ → List ℕ → List Row → Checked (List ℕ)
written payload edit rows =
    then (resolve payload edit rows) (λ sections.
    check (within_limits sections) WontFit (λ _.
    Ok (encode sections)))

-- the same from a table, which holds whole rows
unfoldable pub written_table : List ℕ → List ℕ → List ℕ → Checked (List ℕ)
written_table payload edit table = check (eqb (length table % width) 0) BadRow (λ _. written payload edit (rows_of table))

-- what writing answers where so many bytes are lent
unfoldable pub write_answer : List ℕ → List ℕ → List ℕ → ℕ → Answer
write_answer payload edit table room = answer (written_table payload edit table) room

-- the lent output after writing
unfoldable pub write_output : List ℕ → List ℕ → List ℕ → List ℕ → List ℕ
write_output payload edit table output = output_after (written_table payload edit table) output
