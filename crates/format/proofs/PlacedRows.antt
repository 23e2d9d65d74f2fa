-- The rows of sections whose bytes begin at a place, as reading gives them: wire order, side 0, and the places that the encoding gives.
-- Assumes nothing.
use Prim.Native.Nat.{ℕ, ◌+◌}
use mathlib.Core.List.{List, [], ◌∷◌, ◌++◌}
use lib.ListN.{length}
use Rattle.wire.specs.Length.{wire_size}
use Rattle.layout.specs.Spans.{span}
use Rattle.table.specs.Rows.{plain_row, packed_row, names_row, arguments_row, unknown_row, content_row, name_row, pair_row}
use Rattle.table.specs.declared.row.Row.{Row}
use Rattle.format.specs.Encoding.{content_entry, name_entry, pair_entry, encode_section}
use Rattle.format.specs.Sections.{Name, Pair, Section, plain, packed, names, arguments, unknown}

-- ---- an entry or a pair at a place

abbrev pub content_placed : ℕ → List ℕ → Row
content_placed at text = content_row (span 0 (at + 12) (length text))

-- a name, with the content size that `size` gives it
abbrev pub sized_placed : (Name → ℕ) → ℕ → Name → Row
sized_placed size at n = name_row (span 0 (at + 16) (length n.text)) (size n)

abbrev pub name_placed : ℕ → Name → Row
name_placed = sized_placed (λ n. n.content_size)

abbrev pub pair_placed : ℕ → Pair → Row
pair_placed at x = pair_row (span 0 at (length x.name)) (span 0 (at + wire_size (length x.name)) (length x.value))

-- entries one after the other, the first at a place
unfoldable pub rows_of_run : {A : Type 0} → (A → List ℕ) → (ℕ → A → Row) → ℕ → List A → List Row
rows_of_run bytes_of row_at at [] = []
rows_of_run bytes_of row_at at (a ∷ rest) = row_at at a ∷ rows_of_run bytes_of row_at (at + length (bytes_of a)) rest

-- ---- a section, and sections

unfoldable pub rows_of_section : ℕ → Section → List Row
rows_of_section at (plain header texts) = plain_row header ∷ rows_of_run content_entry content_placed (at + 28) texts
rows_of_section at (packed header stream count uncompressed) = packed_row header (span 0 (at + 28) (length stream)) count uncompressed ∷ []
rows_of_section at (names ns) = names_row ∷ rows_of_run name_entry name_placed (at + 18) ns
rows_of_section at (arguments ps) = arguments_row ∷ rows_of_run pair_entry pair_placed (at + 20) ps
rows_of_section at (unknown kind bytes) = unknown_row kind (span 0 (at + 8) (length bytes)) ∷ []

unfoldable pub rows_from : ℕ → List Section → List Row
rows_from at [] = []
rows_from at (s ∷ ss) = rows_of_section at s ++ rows_from (at + length (encode_section s)) ss
