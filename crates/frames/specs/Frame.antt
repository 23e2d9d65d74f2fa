-- A section's headers and padding, around the bytes that it stores, and the main header before all sections.
use Rattle.std.specs.Prelude.{ℕ, ◌+◌, ◌-◌, List, ◌++◌, replicate}
use Rattle.std.proofs.lemmas.List.Edits.{sets}
use Rattle.wire.specs.Padding.{padding, aligned}
use Rattle.layout.specs.Kinds.{kind_number}
use Rattle.layout.specs.declared.section_type.SourceInfoSectionType.{SourceInfoSectionType}
use Rattle.format.specs.Encoding.{u16, u32}

-- a section header: a size, flags, a kind
abbrev pub section_header : ℕ → ℕ → List ℕ
section_header size kind = u32 size ++ (u16 0 ++ u16 kind)

-- the main header: a size, flags, how many sections
abbrev pub main_header : ℕ → ℕ → List ℕ
main_header size sections = u32 size ++ (u16 0 ++ u16 sections)

-- the body headers, for so many stored bytes
abbrev pub contents_header : ℕ → ℕ → ℕ → ℕ → ℕ → List ℕ
contents_header field compression bytes uncompressed count =
    u32 field ++ (u16 0 ++ (u16 compression ++ (u32 bytes ++ (u32 uncompressed ++ u32 count))))

abbrev pub names_header : ℕ → ℕ → List ℕ
names_header bytes count = u32 0 ++ (u32 count ++ u16 bytes)

abbrev pub arguments_header : ℕ → ℕ → List ℕ
arguments_header bytes count = u32 0 ++ (u32 bytes ++ u32 count)

-- an output with the headers of a section at a start, and zeros from the end of its stored bytes on
unfoldable pub framed : List ℕ → ℕ → ℕ → SourceInfoSectionType → List ℕ → List ℕ
framed output start end kind body =
    let size : ℕ = end - start in
    sets (sets output start (section_header (aligned size) (kind_number kind) ++ body)) end (replicate (padding size) 0)

-- an output with the first 12 bytes of an entry at a start, whose header has so many bytes: aligned size, flags, text size; and zeros from the end of
-- its text on, its NUL and its padding
unfoldable pub entry_framed : List ℕ → ℕ → ℕ → ℕ → List ℕ
entry_framed output start header end =
    let size : ℕ = end - start + 1 in
    sets (sets output start (u32 (aligned size) ++ (u32 0 ++ u32 (end - (start + header) + 1)))) end (replicate (1 + padding size) 0)
