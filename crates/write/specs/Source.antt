-- A source: its rows, its sections, and the section that the row at a position begins.
use Rattle.std.specs.Prelude.{ℕ, List, drop, true, ◌≡◌, Option}
use Rattle.table.specs.Rows.{rows_of}
use Rattle.table.specs.Tags.{opens_section}
use Rattle.table.specs.declared.row.Row.{Row}
use Rattle.table.specs.declared.tag.Tag.{Tag}
use Rattle.format.specs.Resolve.{sections_of}
use Rattle.format.specs.Sections.{Section}
use Rattle.write.specs.Position.{Writable, past}
use Rattle.write.specs.Run.{row_bytes, run_bytes}
use Rattle.write.specs.Section.{section_at}
use Rattle.write.specs.declared.position.Position.{Position}
use Rattle.write.specs.declared.source.Source.{Source}

abbrev pub rows : Source → List Row
rows s = rows_of s.rows.now

abbrev pub all_sections : Source → List Section
all_sections s = sections_of s.sides.payload.now s.sides.edit.now (rows s)

-- the entry that a row of a tag is, and the entries that the rows of a tag are, from an index on
abbrev pub entry_of : Source → Tag → Row → List ℕ
entry_of s t r = row_bytes s.sides.payload.now s.sides.edit.now t r

abbrev pub run_from : Source → Tag → ℕ → List ℕ
run_from s t first = run_bytes s.sides.payload.now s.sides.edit.now t (drop first (rows s))

abbrev pub section : Source → Position → Section
section s p = section_at s.sides.payload.now s.sides.edit.now (rows s) p.index

-- the position after that section
abbrev pub after : Source → Position → Position
after s p = past s.sides.payload.now s.sides.edit.now (rows s) p

-- the row at a position is of a tag that begins a section, and that section may be written there
pub record MayWrite (s : Source) (t : Option Tag) (p : Position) : Type 0 where
  pub begins : opens_section t ≡ true
  pub writable : Writable s.sides.payload.now s.sides.edit.now (rows s) t p
