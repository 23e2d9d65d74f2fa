-- A frame around what a section stores is the section, and the body header may be stored before the rest of the frame.
-- Assumes nothing.
use Prim.Native.Nat.{ℕ, ◌+◌, ◌-◌}
use mathlib.Core.List.{List, [], ◌++◌, append_assoc, append-nil}
use mathlib.Core.Path.{◌≡◌, sym, ap, ◌∙◌}
use native.Mathlib.Omega.{arith}
use lib.ListN.{length, replicate, length-append}
use lib.Seq.{sets}
use Rattle.wire.specs.Padding.{padding, aligned}
use Rattle.wire.proofs.NumberLaws.{length-bytes_of, bytes_of-low, number-stored, fields-stored}
use Rattle.wire.proofs.Sets.{sets-before, sets-joined}
use Rattle.layout.specs.Kinds.{kind_number}
use Rattle.layout.specs.declared.section_type.SourceInfoSectionType.{SourceInfoSectionType}
use Rattle.format.specs.Encoding.{u16, u32, padded, stored_bytes, body_header, kind_of, encode_section}
use Rattle.format.specs.Sections.{Section}
use Rattle.format.proofs.Encoding.{length-body_header}
use Rattle.format.proofs.SectionBytes.{start, filled, length-section}
use Rattle.frames.specs.Frame.{section_header, contents_header, framed}

length-top : (size kind : ℕ) → length (section_header size kind) ≡ 8
length-top size kind = simp (length-append, length-bytes_of)

-- the six fields of the body header of contents, one after the other
pub contents-stored :
    (l : List ℕ) (at field compression bytes uncompressed count : ℕ) →
    (let flags : List ℕ = sets (sets (sets l (at + 8) (u32 field)) (at + 12) (u16 0)) (at + 14) (u16 compression) in
    sets (sets (sets flags (at + 16) (u32 bytes)) (at + 20) (u32 uncompressed)) (at + 24) (u32 count)
    ≡ sets l (at + 8) (contents_header field compression bytes uncompressed count))
contents-stored l at field compression bytes uncompressed count =
    let flags : List ℕ = sets (sets l (at + 8) (u32 field)) (at + 12) (u16 0) in
    let kind : List ℕ = sets flags (at + 14) (u16 compression) in
    let sizes : List ℕ = u32 bytes ++ (u32 uncompressed ++ u32 count) in
    fields-stored bytes 4 uncompressed (u32 count) kind (at + 16) (at + 20) (at + 24) (omega arith) (omega arith) ∙
    number-stored 2 compression sizes flags (at + 14) (at + 16) (omega arith) ∙
    fields-stored field 2 0 (u16 compression ++ sizes) l (at + 8) (at + 12) (at + 14) (omega arith) (omega arith)

-- a body header, and then a frame without one
pub body-first :
    (body l : List ℕ) (at end : ℕ) (kind : SourceInfoSectionType) → framed (sets l (at + 8) body) at end kind [] ≡ framed l at end kind body
unfolding framed
body-first body l at end kind =
    let size : ℕ = aligned (end - at) in
    rw (append-nil, sets-before (section_header size (kind_number kind)) body l at (at + 8) (omega (arith, length-top size (kind_number kind))))

-- the fields of a body header in a row, and the frame after them
pub ruleset fields_first = (bytes_of-low, fields-stored, contents-stored, body-first)

-- ---- a section at a place, up to the end of what it stores

module _ (s : Section) (at : ℕ) {end : ℕ} (e : end ≡ at + filled s) where
  pub closed-size : aligned (end - at) ≡ length (encode_section s)
  closed-size =
      let size : end - at ≡ filled s = omega arith in
      ap aligned size ∙ sym (length-section s)

  -- what a section stores, and then the frame around it
  pub section-closed :
      (l : List ℕ) → framed (sets l (at + start s) (stored_bytes s)) at end (kind_of s) (body_header s (end - (at + start s))) ≡ sets l at (encode_section s)
  unfolding framed encode_section
  section-closed l =
      let bytes : List ℕ = stored_bytes s in
      let header : List ℕ = body_header s (length bytes) in
      let body : List ℕ = header ++ bytes in
      let size : ℕ = aligned (8 + length body) in
      let top : List ℕ = section_header size (kind_number (kind_of s)) in
      let zeros : List ℕ = replicate (padding (8 + length body)) 0 in
      let eight = length-top size (kind_number (kind_of s)) in
      let more = length-body_header s (length bytes) in
      let inner = length-append header bytes in
      let many : end - (at + start s) ≡ length bytes = omega arith in
      let span : end - at ≡ 8 + length body = omega arith in
      let head : length (top ++ header) ≡ start s = omega (arith, length-append top header) in
      let all : length ((top ++ header) ++ bytes) ≡ 8 + length body = omega (arith, length-append (top ++ header) bytes) in
      let whole : (top ++ header) ++ bytes ≡ u32 size ++ (u16 0 ++ (u16 (kind_number (kind_of s)) ++ body)) = simp append_assoc in
      rw (many, span)
      (ap (λ (t : List ℕ). sets t end zeros) (sets-before (top ++ header) bytes l at (at + start s) (omega arith)) ∙
      sets-joined ((top ++ header) ++ bytes) zeros l at end (omega arith) ∙
      ap (λ (n : ℕ). sets l at (((top ++ header) ++ bytes) ++ replicate (padding n) 0)) (sym all) ∙
      ap (λ (t : List ℕ). sets l at (padded t)) whole)
