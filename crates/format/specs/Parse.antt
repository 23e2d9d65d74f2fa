-- Reading: a payload to its rows or to the first fault, in document 01's order. `p` is the whole payload, `at` a place in it.
-- Each step names the refusal that its test guards; what follows a test is not looked at where the test fails.
use Rattle.std.specs.Prelude.{ℕ, zero, suc, ◌+◌, ◌-◌, ◌%◌, List, [], ◌∷◌, ◌++◌, leb, ltb, eqb, length, Ok}
use Rattle.find.specs.Nul.{until_nul, has_nul}
use Rattle.wire.specs.Length.{wire_size}
use Rattle.wire.specs.Number.{byte_at, u16_at, u32_at}
use Rattle.wire.specs.Padding.{padding, aligned, all_zero}
use Rattle.layout.specs.Checked.{Checked, check, then}
use Rattle.layout.specs.Kinds.{section_type, checked_compression}
use Rattle.layout.specs.Spans.{span, part}
use Rattle.layout.specs.TextCheck.{check_text}
use Rattle.layout.specs.declared.compression.SourceCompression.{SourceCompression}
use Rattle.layout.specs.declared.compression.SourceCompression.TheVariants.{None, Zlib}
use Rattle.layout.specs.declared.refusal.Refusal.TheVariants.{Oversize, Ragged, MainHeader, Frame, Flag, Short, BodySize, Padding, EntrySize, OpenText, Leftover, Compression, Unequal}
use Rattle.layout.specs.declared.section_type.SourceInfoSectionType.{SourceInfoSectionType}
use Rattle.layout.specs.declared.section_type.SourceInfoSectionType.TheVariants.{SourceContents, SourceNames, Arguments, Unknown}
use Rattle.table.specs.Rows.{plain_row, packed_row, names_row, arguments_row, unknown_row, content_row, name_row, pair_row, value_span}
use Rattle.table.specs.declared.row.Row.{Row}
use Rattle.format.specs.Encoding.{limit}

-- a text of a wire size at a place: its NUL, the text before it, then so many zeros
unfoldable pub terminated_text : List ℕ → ℕ → ℕ → ℕ → Checked (Unit {0})
terminated_text p at size zeros =
    check (eqb (byte_at p (at + (size - 1))) 0) OpenText (λ _.
    then (check_text p at (size - 1)) (λ _.
    check (all_zero (part p (at + size) zeros)) Padding (λ _.
    Ok tt)))

-- An entry of names or of plain contents: an aligned size, flags, the wire size of the entry's own text, further fields up to
-- `header` bytes, the text, its NUL, padding, all before `end`. Gives the text's length.
unfoldable pub entry : ℕ → List ℕ → ℕ → ℕ → Checked ℕ
entry header p at end =
    check (leb (at + header) end) Short (λ _.
    check (eqb (u32_at p (at + 4)) 0) Flag (λ _.
    let size : ℕ = u32_at p (at + 8) in
    check (ltb 0 size) EntrySize (λ _.
    check (eqb (u32_at p at) (aligned (header + size))) EntrySize (λ _.
    check (leb (at + aligned (header + size)) end) EntrySize (λ _.
    then (terminated_text p (at + header) size (padding (header + size))) (λ _.
    Ok (size - 1)))))))

-- the place after the entry at a place whose text has a length
abbrev pub after_entry : ℕ → ℕ → ℕ → ℕ
after_entry header at length = at + aligned (header + wire_size length)

-- As many entries as the count says, up to `end`. `row_of` gives the row of the entry at a place whose text has a length.
unfoldable pub entries : ℕ → (ℕ → ℕ → Row) → ℕ → List ℕ → ℕ → ℕ → Checked (List Row)
entries header row_of zero p at end = check (eqb at end) Leftover (λ _. Ok [])
entries header row_of (suc count) p at end =
    then (entry header p at end) (λ length.
    then (entries header row_of count p (after_entry header at length) end) (λ rows.
    Ok (row_of at length ∷ rows)))

-- one text of a pair, which ends at the first NUL before `end`: its length. So it has no NUL inside, and 12 does not come of it.
unfoldable pub pair_text : List ℕ → ℕ → ℕ → Checked ℕ
pair_text p at end =
    let rest : List ℕ = part p at (end - at) in
    check (has_nul rest) OpenText (λ _.
    then (check_text p at (until_nul rest)) (λ _.
    Ok (until_nul rest)))

-- a pair: its name, then its value. Gives its row.
unfoldable pub pair : List ℕ → ℕ → ℕ → Checked Row
pair p at end =
    then (pair_text p at end) (λ name.
    let start : ℕ = at + wire_size name in
    then (pair_text p start end) (λ value.
    Ok (pair_row (span 0 at name) (span 0 start value))))

-- the place after a pair, which is the one after its value
abbrev pub after_pair : Row → ℕ
after_pair r = (value_span r).start + wire_size (value_span r).count

-- as many pairs as the count says, up to `end`
unfoldable pub pairs : ℕ → List ℕ → ℕ → ℕ → Checked (List Row)
pairs zero p at end = check (eqb at end) Leftover (λ _. Ok [])
pairs (suc count) p at end =
    then (pair p at end) (λ r.
    then (pairs count p (after_pair r) end) (λ rows.
    Ok (r ∷ rows)))

-- a section's size is that of its headers and stored bytes, padded, and the padding is zero
unfoldable pub framed : List ℕ → ℕ → ℕ → ℕ → ℕ → Checked (Unit {0})
framed p at size headers bytes =
    check (eqb size (aligned (headers + bytes))) BodySize (λ _.
    check (all_zero (part p (at + headers + bytes) (padding (headers + bytes)))) Padding (λ _.
    Ok tt))

-- arguments: flags at 8, pair bytes at 12, pair count at 16, pairs from 20 on
unfoldable pub parse_arguments : List ℕ → ℕ → ℕ → Checked (List Row)
parse_arguments p at size =
    check (leb 20 size) Short (λ _.
    check (eqb (u32_at p (at + 8)) 0) Flag (λ _.
    let bytes : ℕ = u32_at p (at + 12) in
    then (framed p at size 20 bytes) (λ _.
    then (pairs (u32_at p (at + 16)) p (at + 20) (at + 20 + bytes)) (λ rows.
    Ok (arguments_row ∷ rows)))))

-- the row of the name at a place whose text has a length
abbrev pub name_row_at : List ℕ → ℕ → ℕ → Row
name_row_at p at length = name_row (span 0 (at + 16) length) (u32_at p (at + 12))

-- names: flags at 8, count at 12, entry bytes at 16, entries from 18 on
unfoldable pub parse_names : List ℕ → ℕ → ℕ → Checked (List Row)
parse_names p at size =
    check (leb 18 size) Short (λ _.
    check (eqb (u32_at p (at + 8)) 0) Flag (λ _.
    let bytes : ℕ = u16_at p (at + 16) in
    then (framed p at size 18 bytes) (λ _.
    then (entries 16 (name_row_at p) (u32_at p (at + 12)) p (at + 18) (at + 18 + bytes)) (λ rows.
    Ok (names_row ∷ rows)))))

-- the row of the content at a place whose text has a length
abbrev pub content_row_at : ℕ → ℕ → Row
content_row_at at length = content_row (span 0 (at + 12) length)

-- the row of the packed contents at a place
abbrev pub packed_row_at : List ℕ → ℕ → Row
packed_row_at p at = packed_row (u32_at p (at + 8)) (span 0 (at + 28) (u32_at p (at + 16))) (u32_at p (at + 24)) (u32_at p (at + 20))

-- Contents by the compression: plain ones have entries; of packed ones the count and the uncompressed size are not looked into.
unfoldable pub parse_stored : SourceCompression → List ℕ → ℕ → Checked (List Row)
parse_stored None p at =
    let bytes : ℕ = u32_at p (at + 16) in
    check (eqb (u32_at p (at + 20)) bytes) Unequal (λ _.
    then (entries 12 content_row_at (u32_at p (at + 24)) p (at + 28) (at + 28 + bytes)) (λ rows.
    Ok (plain_row (u32_at p (at + 8)) ∷ rows)))
parse_stored Zlib p at = Ok (packed_row_at p at ∷ [])

-- contents: header field at 8, flags at 12, compression at 14, stored bytes at 16, uncompressed bytes at 20, count at 24, stored
-- bytes from 28 on
unfoldable pub parse_contents : List ℕ → ℕ → ℕ → Checked (List Row)
parse_contents p at size =
    check (leb 28 size) Short (λ _.
    check (eqb (u16_at p (at + 12)) 0) Flag (λ _.
    let compression : ℕ = u16_at p (at + 14) in
    check (leb compression 1) Compression (λ _.
    then (framed p at size 28 (u32_at p (at + 16))) (λ _.
    parse_stored (checked_compression compression) p at))))

-- the row of the section of an unknown kind and of a size that stands at a place
abbrev pub unknown_row_at : ℕ → ℕ → ℕ → Row
unknown_row_at kind at size = unknown_row kind (span 0 (at + 8) (size - 8))

-- the section of a kind and of a size that stands at a place
unfoldable pub parse_section : SourceInfoSectionType → List ℕ → ℕ → ℕ → Checked (List Row)
parse_section SourceContents p at size = parse_contents p at size
parse_section SourceNames p at size = parse_names p at size
parse_section Arguments p at size = parse_arguments p at size
parse_section (Unknown kind) p at size = Ok (unknown_row_at kind at size ∷ [])

-- a section header: size at 0, flags at 4, kind at 6. Gives the size.
unfoldable pub frame : List ℕ → ℕ → Checked ℕ
frame p at =
    check (leb (at + 4) (length p)) Frame (λ _.
    let size : ℕ = u32_at p at in
    check (leb 8 size) Frame (λ _.
    check (eqb (size % 4) 0) Frame (λ _.
    check (leb (at + size) (length p)) Frame (λ _.
    check (eqb (u16_at p (at + 4)) 0) Flag (λ _.
    Ok size)))))

-- the kind of the section at a place
abbrev pub kind_at : List ℕ → ℕ → SourceInfoSectionType
kind_at p at = section_type (u16_at p (at + 6))

-- as many sections as the count says, one after the other, up to the payload's end
unfoldable pub parse_sections : ℕ → List ℕ → ℕ → Checked (List Row)
parse_sections zero p at = check (eqb at (length p)) Leftover (λ _. Ok [])
parse_sections (suc count) p at =
    then (frame p at) (λ size.
    then (parse_section (kind_at p at) p at size) (λ first.
    then (parse_sections count p (at + size)) (λ rest.
    Ok (first ++ rest))))

-- a whole payload: length at 0, flags at 4, section count at 6, sections from 8 on
unfoldable pub parse : List ℕ → Checked (List Row)
parse p =
    check (leb (length p) limit) Oversize (λ _.
    check (leb 8 (length p)) Ragged (λ _.
    check (eqb (length p % 4) 0) Ragged (λ _.
    check (eqb (u32_at p 0) (length p)) MainHeader (λ _.
    check (eqb (u16_at p 4) 0) MainHeader (λ _.
    parse_sections (u16_at p 6) p 8)))))
