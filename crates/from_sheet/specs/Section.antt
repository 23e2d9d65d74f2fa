-- The section that a record begins, and how it is closed.
use Rattle.std.specs.Prelude.{ℕ, ◌+◌, ◌-◌, List, [], ◌≡◌, length, get_or}
use Rattle.table.specs.Tags.{entry_tag, headers_size}
use Rattle.table.specs.declared.tag.Tag.{Tag}
use Rattle.format.specs.Encoding.{body_header, kind_of}
use Rattle.format.specs.Records.{Record, begun}
use Rattle.format.specs.Sections.{Section, unknown}
use Rattle.frames.specs.Frame.{framed}
use Rattle.from_sheet.specs.Run.{run}

-- the section that a record of a tag begins, where some records follow it; one that is never stored stands for that of a record that begins none
abbrev pub section_of : Tag → Record → List Record → Section
section_of t r rs = get_or (begun t r rs) 0 (unknown 0 [])

-- an output after a section that a record begins, from a start on, is closed at the end of its stored bytes; so many entries follow the record
abbrev pub Framed : Record → List ℕ → ℕ → ℕ → ℕ → List ℕ → Type 0
Framed r output start end count after =
    (rs : List Record) →
    count ≡ length (run (entry_tag r.tag) rs) →
    (let s : Section = section_of r.tag r rs in
    after ≡ framed output start end (kind_of s) (body_header s (end - (start + headers_size r.tag))))
