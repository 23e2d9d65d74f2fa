-- What the functions that store lines speak of: the line of an entry and of a pair by its place, the lines of a section, and the length of the longest
-- sheet.
use Rattle.std.specs.Prelude.{ℕ, ◌+◌, List, drop}
use mathlib.Core.List.{flat_map}
use Rattle.find.specs.Nul.{until_nul}
use Rattle.wire.specs.Length.{wire_size}
use Rattle.format.specs.PublicFacts.{text_at}
use Rattle.format.specs.Records.{pair_record}
use Rattle.sheet.specs.Lines.{line}
use Rattle.sheet.specs.SheetWalk.{content_at, name_at, section_records}
use Rattle.accepted.specs.Entries.{Placed}
use Rattle.accepted.specs.Sections.{Found}

-- three and a half times a payload's limit
abbrev pub sheet_limit : ℕ
sheet_limit = 91750400

abbrev pub content_line : Placed → List ℕ
content_line e = line (content_at e.bytes e.at)

abbrev pub name_line : Placed → List ℕ
name_line e = line (name_at e.bytes e.at)

abbrev pub pair_line : Placed → List ℕ
pair_line e = line (pair_record (record { name = text_at e.bytes e.at; value = text_at e.bytes (e.at + wire_size (until_nul (drop e.at e.bytes))) }))

-- the lines of a section
abbrev pub lines_of : Found → List ℕ
lines_of s = flat_map line (section_records s.bytes s.kind s.at)
