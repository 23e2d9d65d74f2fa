-- What a section reader takes at a place of a payload, by the definition of reading: `frame` tells a section's size or its fault.
use Rattle.section_reader.specs.declared.section.Section.{Section}
use Rattle.std.specs.Prelude.{ℕ, ◌+◌, List, Err, Ok}
use Rattle.layout.specs.Checked.{Checked, taking}
use Rattle.format.specs.Parse.{frame, kind_at}
use Rattle.section_reader.specs.declared.reader.SectionReader.{SectionReader}

-- the section of a size at a place, with the kind that its header says; or the fault
abbrev pub section_found : List ℕ → ℕ → Checked ℕ → Checked Section
section_found p at = taking (λ size. record { kind = kind_at p at; at = at; size = size })

-- the place after a section of a size; at a fault the place stays
abbrev pub place_after : ℕ → Checked ℕ → ℕ
place_after at (Err refusal) = at
place_after at (Ok size) = at + size

-- what is taken at a place: the section that begins there, or its fault
abbrev pub taken : List ℕ → ℕ → Checked Section
taken p at = section_found p at (frame p at)

-- a reader after it has taken a section: the same payload, and the place after the section
abbrev pub moved_on : SectionReader → SectionReader
moved_on reader = record { payload = reader.payload; at = place_after reader.at (frame reader.payload.now reader.at) }
