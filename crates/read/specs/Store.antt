-- What the second pass does to a table: it stores rows one after the other, those of one section after those of another.
use Rattle.std.specs.Prelude.{ℕ, ◌+◌, List, [], ◌∷◌}
use Rattle.table.specs.Rows.{store_row}
use Rattle.table.specs.declared.row.Row.{Row}
use Rattle.format.specs.Walk.{content_at, name_at, pair_at, walk_section}
use Rattle.accepted.specs.Entries.{Placed}
use Rattle.accepted.specs.Sections.{Found}

-- rows stored in a table from an index on
unfoldable pub store_rows : List ℕ → ℕ → List Row → List ℕ
store_rows table index [] = table
store_rows table index (r ∷ rows) = store_rows (store_row table index r) (index + 1) rows

-- the row of a content, of a name, of a pair
abbrev pub content_of : Placed → Row
content_of e = content_at e.bytes e.at

abbrev pub name_of : Placed → Row
name_of e = name_at e.bytes e.at

abbrev pub pair_of : Placed → Row
pair_of e = pair_at e.bytes e.at

-- the rows of a section
abbrev pub rows_of : Found → List Row
rows_of s = walk_section s.bytes s.kind s.at
