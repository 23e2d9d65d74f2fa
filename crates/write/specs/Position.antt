-- A position, moved on past the section that its row begins.
use Rattle.std.specs.Prelude.{ℕ, ◌+◌, ◌≤◌, ◌<◌, true, List, ◌≡◌, length, get_or, Option}
use Rattle.table.specs.Rows.{no_row}
use Rattle.layout.specs.Kinds.{kind_number}
use Rattle.table.specs.Tags.{tag_of}
use Rattle.table.specs.declared.row.Row.{Row}
use Rattle.table.specs.declared.tag.Tag.{Tag}
use Rattle.format.specs.Encoding.{limit, kind_of, encode_section, countable}
use Rattle.write.specs.declared.position.Position.{Position}
use Rattle.write.specs.Section.{section_at, next_section}

-- a position by its row's index and its place
abbrev pub standing : ℕ → ℕ → Position
standing index at = record { index = index; at = at }

-- the bytes of the section that the row at a position begins
abbrev pub section_bytes : List ℕ → List ℕ → List Row → Position → List ℕ
section_bytes payload edit rows p = encode_section (section_at payload edit rows p.index)

-- the position after that section: past its rows, and past its bytes
abbrev pub past : List ℕ → List ℕ → List Row → Position → Position
past payload edit rows p = record { index = next_section rows p.index; at = p.at + length (section_bytes payload edit rows p) }

-- the row at a position is of a tag, and the section that it begins fits its fields and the limit
abbrev pub Writable : List ℕ → List ℕ → List Row → Option Tag → Position → Type 0
Writable payload edit rows t p =
    (p.index < length rows)
    × (tag_of (get_or rows p.index no_row).tag ≡ t)
    × (kind_number (kind_of (section_at payload edit rows p.index)) ≤ 65535)
    × (countable (section_at payload edit rows p.index) ≡ true)
    × (p.at + length (section_bytes payload edit rows p) ≤ limit)
