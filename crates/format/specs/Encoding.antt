-- The published layout: sections as bytes, record for record as DxilContainer.h has them, with every flag 0; and its limits.
use Rattle.std.specs.Prelude.{ℕ, ◌+◌, Bool, true, ◌&&◌, leb, length, replicate}
use mathlib.Core.List.{List, [], ◌∷◌, ◌++◌, flat_map}
use Rattle.wire.specs.Number.{bytes_of}
use Rattle.wire.specs.Padding.{padding, aligned}
use Rattle.wire.specs.Length.{wire_size}
use Rattle.layout.specs.Kinds.{kind_number, compression_number}
use Rattle.layout.specs.declared.compression.SourceCompression.TheVariants.{None, Zlib}
use Rattle.layout.specs.declared.section_type.SourceInfoSectionType.{SourceInfoSectionType}
use Rattle.layout.specs.declared.section_type.SourceInfoSectionType.TheVariants.{SourceContents, SourceNames, Arguments, Unknown}
use Rattle.format.specs.Sections.{Name, Pair, Section, plain, packed, names, arguments, unknown}

abbrev pub u16 : ℕ → List ℕ
u16 n = bytes_of 2 n

abbrev pub u32 : ℕ → List ℕ
u32 n = bytes_of 4 n

-- bytes, and zeros after them up to a multiple of 4
abbrev pub padded : List ℕ → List ℕ
padded bytes = bytes ++ replicate (padding (length bytes)) 0

abbrev pub terminate : List ℕ → List ℕ
terminate text = text ++ (0 ∷ [])

-- DxilSourceInfo_SourceContentsEntry: aligned size, flags, content size, text
unfoldable pub content_entry : List ℕ → List ℕ
content_entry text =
    let size : ℕ = wire_size (length text) in
    padded (u32 (aligned (12 + size)) ++ (u32 0 ++ (u32 size ++ terminate text)))

-- DxilSourceInfo_SourceNamesEntry: aligned size, flags, name size, content size, name
unfoldable pub name_entry : Name → List ℕ
name_entry n =
    let size : ℕ = wire_size (length n.text) in
    padded (u32 (aligned (16 + size)) ++ (u32 0 ++ (u32 size ++ (u32 n.content_size ++ terminate n.text))))

-- name and value of an argument
unfoldable pub pair_entry : Pair → List ℕ
pair_entry p = terminate p.name ++ terminate p.value

-- the bytes that a section stores after its body header
unfoldable pub stored_bytes : Section → List ℕ
stored_bytes (plain header texts) = flat_map content_entry texts
stored_bytes (packed header stream count uncompressed) = stream
stored_bytes (names ns) = flat_map name_entry ns
stored_bytes (arguments ps) = flat_map pair_entry ps
stored_bytes (unknown kind bytes) = bytes

-- DxilSourceInfo_SourceContents, _SourceNames and _Args: the body header, for that many stored bytes
unfoldable pub body_header : Section → ℕ → List ℕ
body_header (plain header texts) bytes = u32 header ++ (u16 0 ++ (u16 (compression_number None) ++ (u32 bytes ++ (u32 bytes ++ u32 (length texts)))))
body_header (packed header stream count uncompressed) bytes = u32 header ++ (u16 0 ++ (u16 (compression_number Zlib) ++ (u32 bytes ++ (u32 uncompressed ++ u32 count))))
body_header (names ns) bytes = u32 0 ++ (u32 (length ns) ++ u16 bytes)
body_header (arguments ps) bytes = u32 0 ++ (u32 bytes ++ u32 (length ps))
body_header (unknown kind all) bytes = []

unfoldable pub kind_of : Section → SourceInfoSectionType
kind_of (plain header texts) = SourceContents
kind_of (packed header stream count uncompressed) = SourceContents
kind_of (names ns) = SourceNames
kind_of (arguments ps) = Arguments
kind_of (unknown kind bytes) = Unknown kind

-- DxilSourceInfoSection: aligned size, flags, kind; the body header and the stored bytes; padding
unfoldable pub encode_section : Section → List ℕ
encode_section s =
    let bytes : List ℕ = stored_bytes s in
    let body : List ℕ = body_header s (length bytes) ++ bytes in
    padded (u32 (aligned (8 + length body)) ++ (u16 0 ++ (u16 (kind_number (kind_of s)) ++ body)))

-- DxilSourceInfo: aligned size, flags, section count; the sections
unfoldable pub encode : List Section → List ℕ
encode ss =
    let bytes : List ℕ = flat_map encode_section ss in
    u32 (8 + length bytes) ++ (u16 0 ++ (u16 (length ss) ++ bytes))

-- the most bytes that a payload holds
abbrev pub limit : ℕ
limit = 26214400

-- whether the field for a section's entry bytes can hold their number: only that of names, of 16 bits, can be too small
unfoldable pub countable : Section → Bool
countable (plain header texts) = true
countable (packed header stream count uncompressed) = true
countable (names ns) = leb (length (flat_map name_entry ns)) 65535
countable (arguments ps) = true
countable (unknown kind bytes) = true

unfoldable pub all_countable : List Section → Bool
all_countable [] = true
all_countable (s ∷ ss) = countable s && all_countable ss

-- whether sections can be written: at most 65,535 of them, names of at most 65,535 entry bytes, in a payload within the limit
unfoldable pub within_limits : List Section → Bool
within_limits ss = leb (length ss) 65535 && all_countable ss && leb (length (encode ss)) limit
