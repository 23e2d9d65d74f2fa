-- Sections as rows have them: the section that a row begins, with the rows of its entries.
use Rattle.std.specs.Prelude.{ℕ, ◌+◌, List, [], length, get_or, drop, Option, Some, None}
use Rattle.table.specs.Rows.{no_row}
use Rattle.table.specs.Tags.{tag_of}
use Rattle.table.specs.declared.row.Row.{Row}
use Rattle.table.specs.declared.tag.Tag.{Tag}
use Rattle.table.specs.declared.tag.Tag.TheVariants as tag
use Rattle.format.specs.Resolve.{leading, begun}
use Rattle.format.specs.Sections.{Section, unknown}

-- the section that a row of a tag begins, where some rows follow it; one that is never written stands for that of a row that begins none
abbrev pub section_from : List ℕ → List ℕ → Option Tag → Row → List Row → Section
section_from payload edit t r rows = get_or (begun payload edit t r rows) 0 (unknown 0 [])

-- how many rows of a tag stand at the start of some rows
abbrev pub entry_count : Option Tag → List Row → ℕ
entry_count t rows = length (leading t (λ (r : Row). r) rows)

-- how many rows after a section's own are its entries, by its tag
abbrev pub entries_of : Option Tag → List Row → ℕ
entries_of (Some tag.PlainContents) rows = entry_count (Some tag.Content) rows
entries_of (Some tag.PackedContents) rows = 0
entries_of (Some tag.Names) rows = entry_count (Some tag.Name) rows
entries_of (Some tag.Arguments) rows = entry_count (Some tag.Pair) rows
entries_of (Some tag.Unknown) rows = 0
entries_of (Some tag.Content) rows = 0
entries_of (Some tag.Name) rows = 0
entries_of (Some tag.Pair) rows = 0
entries_of None rows = 0

-- the section that the row at an index begins, and the index after it and its entries
abbrev pub section_at : List ℕ → List ℕ → List Row → ℕ → Section
section_at payload edit rows index =
    let r : Row = get_or rows index no_row in
    section_from payload edit (tag_of r.tag) r (drop (index + 1) rows)

abbrev pub next_section : List Row → ℕ → ℕ
next_section rows index = index + 1 + entries_of (tag_of (get_or rows index no_row).tag) (drop (index + 1) rows)
