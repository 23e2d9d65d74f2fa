-- A table as rows of seven numbers, the row of each tag by what it holds, and the spans that a row names. Only here do a row's numbers stand in a
-- line.
use Rattle.std.specs.Prelude.{ℕ, ◌+◌, ◌*◌, ◌/◌, ◌%◌, Bool, eqb, cond, ltb, length, get_or, Option, Some, None}
use mathlib.Core.List.{List, [], ◌∷◌, flat_map}
use Rattle.std.proofs.lemmas.List.Edits.{sets}
use Rattle.layout.specs.Spans.{span}
use Rattle.layout.specs.declared.span.Span.{Span}
use Rattle.table.specs.Tags.{tag_of}
use Rattle.table.specs.declared.row.Row.{Row}
use Rattle.table.specs.declared.tag.Tag.{Tag}
use Rattle.table.specs.declared.tag.Tag.TheVariants.{PlainContents, PackedContents, Names, Arguments, Unknown, Content, Name, Pair}

-- how many numbers make a row
abbrev pub width : ℕ
width = 7

abbrev pub row : ℕ → ℕ → ℕ → ℕ → ℕ → ℕ → ℕ → Row
row tag side a b c d e = record { tag = tag; side = side; a = a; b = b; c = c; d = d; e = e }

-- ---- a table

-- the row that stands for one that a table does not hold
abbrev pub no_row : Row
no_row = row 0 0 0 0 0 0 0

-- the row whose first number stands at a place
abbrev pub row_at : List ℕ → ℕ → Row
row_at t at =
    row (get_or t at 0) (get_or t (at + 1) 0) (get_or t (at + 2) 0) (get_or t (at + 3) 0) (get_or t (at + 4) 0) (get_or t (at + 5) 0)
    (get_or t (at + 6) 0)

-- the row of its seven numbers
abbrev pub row_of : List ℕ → Row
row_of numbers = row_at numbers 0

-- the whole rows of a table; numbers past the last whole row are left out
unfoldable pub rows_of : List ℕ → List Row
rows_of [] = []
rows_of (t ∷ []) = []
rows_of (t ∷ s ∷ []) = []
rows_of (t ∷ s ∷ a ∷ []) = []
rows_of (t ∷ s ∷ a ∷ b ∷ []) = []
rows_of (t ∷ s ∷ a ∷ b ∷ c ∷ []) = []
rows_of (t ∷ s ∷ a ∷ b ∷ c ∷ d ∷ []) = []
rows_of (t ∷ s ∷ a ∷ b ∷ c ∷ d ∷ e ∷ rest) = row t s a b c d e ∷ rows_of rest

-- whether a table holds whole rows, and no numbers past them
abbrev pub are_whole : List ℕ → Bool
are_whole table = eqb (length table % width) 0

abbrev pub numbers_of : Row → List ℕ
numbers_of r = r.tag ∷ r.side ∷ r.a ∷ r.b ∷ r.c ∷ r.d ∷ r.e ∷ []

-- rows as the numbers of a table
unfoldable pub table_of : List Row → List ℕ
table_of rows = flat_map numbers_of rows

-- a table after a row was stored at an index that it holds whole; any other index changes nothing
unfoldable pub store_row : List ℕ → ℕ → Row → List ℕ
store_row table index r = cond (ltb index (length table / width)) (sets table (index * width) (numbers_of r)) table

-- ---- the row of each tag, by the spans and numbers that it holds

abbrev pub plain_row : ℕ → Row
plain_row header = row 0 0 header 0 0 0 0

abbrev pub packed_row : ℕ → Span → ℕ → ℕ → Row
packed_row header stream count uncompressed = row 1 stream.side header stream.start stream.count count uncompressed

abbrev pub names_row : Row
names_row = row 2 0 0 0 0 0 0

abbrev pub arguments_row : Row
arguments_row = row 3 0 0 0 0 0 0

abbrev pub unknown_row : ℕ → Span → Row
unknown_row kind bytes = row 4 bytes.side kind bytes.start bytes.count 0 0

abbrev pub content_row : Span → Row
content_row text = row 5 text.side text.start text.count 0 0 0

abbrev pub name_row : Span → ℕ → Row
name_row text content_size = row 6 text.side text.start text.count content_size 0 0

-- name and value, which lie on one side
abbrev pub pair_row : Span → Span → Row
pair_row name value = row 7 name.side name.start name.count value.start value.count 0

-- ---- the spans that a row holds

-- the bytes of a packed or an unknown section
abbrev pub bytes_span : Row → Span
bytes_span r = span r.side r.b r.c

-- a content, a name, or the name of a pair
abbrev pub text_span : Row → Span
text_span r = span r.side r.a r.b

-- the value of a pair
abbrev pub value_span : Row → Span
value_span r = span r.side r.c r.d

-- those of a row of a tag, in order; a row of no tag has none
unfoldable pub spans_by : Option Tag → Row → List Span
spans_by (Some PlainContents) r = []
spans_by (Some PackedContents) r = bytes_span r ∷ []
spans_by (Some Names) r = []
spans_by (Some Arguments) r = []
spans_by (Some Unknown) r = bytes_span r ∷ []
spans_by (Some Content) r = text_span r ∷ []
spans_by (Some Name) r = text_span r ∷ []
spans_by (Some Pair) r = text_span r ∷ value_span r ∷ []
spans_by None r = []

abbrev pub spans_of : Row → List Span
spans_of r = spans_by (tag_of r.tag) r
