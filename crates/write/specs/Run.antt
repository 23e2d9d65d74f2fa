-- The bytes that rows are written as.
use Rattle.std.specs.Prelude.{ℕ, Some}
use mathlib.Core.List.{List, [], flat_map}
use Rattle.table.specs.declared.row.Row.{Row}
use Rattle.table.specs.declared.tag.Tag.{Tag}
use Rattle.table.specs.declared.tag.Tag.TheVariants.{PlainContents, PackedContents, Names, Arguments, Unknown, Content, Name, Pair}
use Rattle.format.specs.Encoding.{content_entry, name_entry, pair_entry}
use Rattle.format.specs.Resolve.{leading, content_of, name_of, pair_of}

-- the entry that a row of a tag is; a row that begins a section is none
unfoldable pub row_bytes : List ℕ → List ℕ → Tag → Row → List ℕ
row_bytes payload edit PlainContents r = []
row_bytes payload edit PackedContents r = []
row_bytes payload edit Names r = []
row_bytes payload edit Arguments r = []
row_bytes payload edit Unknown r = []
row_bytes payload edit Content r = content_entry (content_of payload edit r)
row_bytes payload edit Name r = name_entry (name_of payload edit r)
row_bytes payload edit Pair r = pair_entry (pair_of payload edit r)

-- the rows of a tag that stand at the start of some rows, as entries
unfoldable pub run_bytes : List ℕ → List ℕ → Tag → List Row → List ℕ
run_bytes payload edit t rows = flat_map (row_bytes payload edit t) (leading (Some t) (λ (r : Row). r) rows)
