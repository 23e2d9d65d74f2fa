-- A section of whatever kind stands at a place exactly where its size, its kind, its body header, its stored bytes and its padding do.
-- Assumes nothing.
use Prim.Native.Nat.{ℕ, ◌+◌, ◌≤◌, ◌<◌}
use mathlib.Core.Bool.{true}
use mathlib.Core.List.{List, ◌++◌}
use mathlib.Core.Path.{◌≡◌, refl, sym, ap, ◌∙◌}
use native.Mathlib.Omega.{arith}
use lib.ListN.{length, replicate, length-append}
use Rattle.wire.specs.Number.{u16_at, u32_at}
use Rattle.wire.specs.Padding.{padding, aligned, all_zero}
use Rattle.wire.proofs.NumberLaws.{length-bytes_of}
use Rattle.wire.proofs.PaddingLaws.{le-aligned}
use Rattle.layout.specs.Kinds.{kind_number}
use Rattle.layout.specs.Spans.{part}
use Rattle.format.specs.Encoding.{u16, u32, limit, stored_bytes, body_header, kind_of, encode_section}
use Rattle.format.specs.Sections.{Section}
use Rattle.format.specs.WellFormed.{Bytes}
use Rattle.format.proofs.Encoding.{body_header_size, length-body_header, length-encode_section}
use Rattle.format.proofs.Stands.{Stands, stands-first, stands-next, stands-join, zeros-stand, stands-zeros, number-stands, stands_after, stands-number}

-- where a section's stored bytes start, and where they end
abbrev pub start : Section → ℕ
start s = 8 + body_header_size s

abbrev pub filled : Section → ℕ
filled s = start s + length (stored_bytes s)

pub length-section : (s : Section) → length (encode_section s) ≡ aligned (filled s)
length-section s =
    let sum : 8 + (body_header_size s + length (stored_bytes s)) ≡ filled s = omega arith in
    length-encode_section s ∙ ap aligned sum

-- the bytes of a section before its padding
abbrev body : Section → List ℕ
body s = body_header s (length (stored_bytes s)) ++ stored_bytes s

abbrev unpadded : Section → List ℕ
unpadded s = u32 (aligned (8 + length (body s))) ++ (u16 0 ++ (u16 (kind_number (kind_of s)) ++ body s))

module _ (s : Section) where
  sum : 8 + length (body s) ≡ filled s
  sum = simp (length-append, length-body_header) (omega arith)

  length-unpadded : length (unpadded s) ≡ filled s
  length-unpadded = simp (length-append, length-bytes_of) (omega (arith, length-body_header s (length (stored_bytes s))))

  -- where the stored bytes stand
  pub section-stored : (p : List ℕ) (at : ℕ) → Stands p at (encode_section s) → Stands p (at + start s) (stored_bytes s)
  unfolding encode_section
  section-stored p at st =
      let header : List ℕ = body_header s (length (stored_bytes s)) in
      let s₁ = stands_after p 4 at (at + 4) _ _ refl (stands-first p at (unpadded s) (replicate (padding (length (unpadded s))) 0) st) in
      let s₂ = stands_after p 2 (at + 4) (at + 6) _ _ (omega arith) s₁ in
      let s₃ = stands_after p 2 (at + 6) (at + 8) (kind_number (kind_of s)) (body s) (omega arith) s₂ in
      stands-next p (at + 8) header (stored_bytes s) (at + start s) (omega (arith, length-body_header s (length (stored_bytes s)))) s₃

-- what stands at the place of a section
pub record SectionAt (p : List ℕ) (at : ℕ) (s : Section) : Type 0 where
  pub size : u32_at p at ≡ aligned (filled s)
  pub flags : u16_at p (at + 4) ≡ 0
  pub kind : u16_at p (at + 6) ≡ kind_number (kind_of s)
  pub header : Stands p (at + 8) (body_header s (length (stored_bytes s)))
  pub stored : Stands p (at + start s) (stored_bytes s)
  pub zeros : all_zero (part p (at + start s + length (stored_bytes s)) (padding (filled s))) ≡ true

module _ (p : List ℕ) (at : ℕ) (s : Section) (within : at + aligned (filled s) ≤ length p) where
  -- where the stored bytes end
  abbrev end : ℕ
  end = at + start s + length (stored_bytes s)

  filled_within : at + filled s ≤ length p
  filled_within = omega (arith, le-aligned (filled s))

  pub section-stands : Bytes p → SectionAt p at s → Stands p at (encode_section s)
  unfolding encode_section
  section-stands bytes g =
      let stored : Stands p (at + 8) (body s) =
      stands-join p (at + 8) (body_header s (length (stored_bytes s))) (stored_bytes s) (at + start s) (omega (arith, length-body_header s (length (stored_bytes s)))) g.header g.stored in
      let fields : Stands p at (unpadded s) =
      number-stands p 4 at (at + 4) _ _ refl bytes (omega (arith, filled_within)) (g.size ∙ ap aligned (sym (sum s)))
      (number-stands p 2 (at + 4) (at + 6) _ _ (omega arith) bytes (omega (arith, filled_within)) g.flags
      (number-stands p 2 (at + 6) (at + 8) _ _ (omega arith) bytes (omega (arith, filled_within)) g.kind stored)) in
      let zeros = zeros-stand p end (padding (filled s)) (unfold aligned in omega (arith, within)) g.zeros in
      stands-join p at (unpadded s) _ end (omega (arith, length-unpadded s)) fields (rw (length-unpadded s) zeros)

  pub stands-section : length p ≤ limit → kind_number (kind_of s) < 65536 → Stands p at (encode_section s) → SectionAt p at s
  unfolding encode_section
  stands-section small known st =
      let zeros = stands-next p at (unpadded s) _ end (omega (arith, length-unpadded s)) st in
      let (size, s₁) = stands-number p 4 at (at + 4) (aligned (8 + length (body s))) _ refl (rw (sum s) (omega arith)) (stands-first p at (unpadded s) _ st) in
      let (flags, s₂) = stands-number p 2 (at + 4) (at + 6) 0 _ (omega arith) (omega arith) s₁ in
      let (kind, s₃) = stands-number p 2 (at + 6) (at + 8) (kind_number (kind_of s)) _ (omega arith) (omega arith) s₂ in
      let header : List ℕ = body_header s (length (stored_bytes s)) in
      record {
        size = size ∙ ap aligned (sum s);
        flags = flags;
        kind = kind;
        header = stands-first p (at + 8) header (stored_bytes s) s₃;
        stored = stands-next p (at + 8) header (stored_bytes s) (at + start s) (omega (arith, length-body_header s (length (stored_bytes s)))) s₃;
        zeros = stands-zeros p end (padding (filled s)) (rw (length-unpadded s) at zeros);
      }
