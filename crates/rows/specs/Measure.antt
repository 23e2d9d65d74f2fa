-- Measuring rows, by the sizes of crate sizes. That this is the length of what writing gives is a theorem (proofs/Measured.antt).
use Rattle.std.specs.Prelude.{ℕ, cond, List, [], ◌∷◌, Option}
use Rattle.layout.specs.Checked.{Checked, then}
use Rattle.table.specs.Rows.{bytes_span, text_span, value_span}
use Rattle.table.specs.Tags.{tag_of, opens_section}
use Rattle.table.specs.declared.row.Row.{Row}
use Rattle.table.specs.declared.tag.Tag.{Tag}
use Rattle.format.specs.Rules.{check_row}
use Rattle.sizes.specs.Measure.{advance, finish}
use Rattle.sizes.specs.declared.sizes.Sizes.{Sizes}

-- a row counted by its tag: a section's own row names bytes, and an entry's its texts
unfoldable pub count_row : Sizes → Row → Sizes
count_row m r =
    let t : Option Tag = tag_of r.tag in
    cond (opens_section t) (advance m t (bytes_span r).count 0) (advance m t (text_span r).count (value_span r).count)

-- rows in order: each is checked, and then counted
unfoldable pub measure_from : List ℕ → List ℕ → Sizes → List Row → Checked ℕ
measure_from payload edit m [] = finish m
measure_from payload edit m (r ∷ rows) =
    then (check_row payload edit m.previous r) (λ _.
    measure_from payload edit (count_row m r) rows)
