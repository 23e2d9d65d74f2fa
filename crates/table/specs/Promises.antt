-- What the definitions of tags and rows promise of each other. Each is proved under its name in proofs/Promises.antt.
use Rattle.std.specs.Prelude.{ℕ, ◌/◌, ◌%◌, ◌<◌, ◌≡◌, List, length, get_or, Some, option_map, cond, ltb, None}
use Rattle.table.specs.declared.row.Row.{Row}
use Rattle.table.specs.declared.tag.Tag.{Tag}
use Rattle.table.specs.Rows.{width, no_row, rows_of, table_of, store_row}
use Rattle.table.specs.Tags.{tag_of, tag_number}

-- a tag's number stands for it
abbrev pub NumberHasTag : Type 0
NumberHasTag = (t : Tag) → tag_of (tag_number t) ≡ Some t

-- a number below 8 is that of the tag that it stands for, and any other stands for none
abbrev pub TagHasNumber : Type 0
TagHasNumber = (n : ℕ) → option_map tag_number (tag_of n) ≡ cond (ltb n 8) (Some n) None

-- rows are kept as a table
abbrev pub TableKeepsRows : Type 0
TableKeepsRows = (rs : List Row) → rows_of (table_of rs) ≡ rs

-- a table of whole rows is kept as its rows
abbrev pub RowsKeepTable : Type 0
RowsKeepTable = (t : List ℕ) → length t % width ≡ 0 → table_of (rows_of t) ≡ t

-- a row that was stored at an index that the table holds whole is the row there
abbrev pub StoredRowIsThere : Type 0
StoredRowIsThere =
    (t : List ℕ) (i : ℕ) (r : Row) → i < length t / width → get_or (rows_of (store_row t i r)) i no_row ≡ r
