-- The job of reading, with a lent table: its answer, and the table afterwards.
use Rattle.layout.specs.Refusals.{Answer}
use Rattle.std.specs.Prelude.{ℕ, ◌*◌, ◌/◌, Bool, cond, List, ◌++◌, leb, length, drop, Err, Ok, is_ok}
use Rattle.layout.specs.Checked.{Checked}
use Rattle.table.specs.Rows.{width, table_of}
use Rattle.table.specs.declared.row.Row.{Row}
use Rattle.layout.specs.declared.refusal.Refusal.TheVariants.{NoRows}
use Rattle.format.specs.Parse.{parse}

-- whether a table of so many numbers holds these rows
abbrev pub holds : ℕ → List Row → Bool
holds numbers rows = leb (length rows) (numbers / width)

-- the answer to a table of so many numbers, by what reading comes to
unfoldable pub rows_answer : Checked (List Row) → ℕ → Answer
rows_answer (Err refusal) numbers = Err refusal
rows_answer (Ok rows) numbers = cond (holds numbers rows) (Ok (length rows)) (Err (NoRows (length rows)))

-- the table afterwards
unfoldable pub table_after : Checked (List Row) → List ℕ → List ℕ
table_after (Err refusal) table = table
table_after (Ok rows) table = cond (holds (length table) rows) (table_of rows ++ drop (length rows * width) table) table

-- what reading a payload answers where so many numbers are lent
unfoldable pub read_answer : List ℕ → ℕ → Answer
read_answer payload numbers = rows_answer (parse payload) numbers

-- the lent table after reading a payload: the rows from its start on, the rest as it was; as it was where the call is refused
unfoldable pub read_table : List ℕ → List ℕ → List ℕ
read_table payload table = table_after (parse payload) table

-- whether a payload is accepted: none of 1 to 15 applies, however few rows are lent
unfoldable pub accepted : List ℕ → Bool
accepted payload = is_ok (parse payload)
