-- What a section's header and what is around its stored bytes say where they are good; and both are good where all of that holds.
-- Assumes nothing.
use Rattle.std.specs.Prelude.{Ok}
use Prim.Native.Nat.{ℕ, ◌+◌, ◌%◌, ◌≤◌}
use mathlib.Core.Bool.{true}
use mathlib.Core.List.{List}
use mathlib.Core.Path.{◌≡◌, refl, sym}
use native.Mathlib.Omega.{arith}
use borrow.Author.Tests.{leb-true, eqb-true, le-leb, eq-eqb}
use lib.ListN.{length}
use Rattle.wire.specs.Number.{u16_at, u32_at}
use Rattle.wire.specs.Padding.{padding, aligned, all_zero}
use Rattle.wire.proofs.PaddingLaws.{le-aligned}
use Rattle.layout.specs.Spans.{part}
use Rattle.layout.proofs.Checked.{check-good, check-passes}
use Rattle.format.specs.Parse.{frame, framed}

-- what a section's header is where it is good: it has no flags, and its size
pub record Frame (p : List ℕ) (at size : ℕ) : Type 0 where
  pub least : 8 ≤ size
  pub multiple : size % 4 ≡ 0
  pub within : at + size ≤ length p
  pub is : size ≡ u32_at p at
  pub flags : u16_at p (at + 4) ≡ 0

module _ (p : List ℕ) (at size : ℕ) where
  pub frame-good : frame p at ≡ Ok size → Frame p at size
  unfolding frame
  frame-good e =
      let there = check-good _ _ _ _ e in
      let least = check-good _ _ _ _ there.1 in
      let whole = check-good _ _ _ _ least.1 in
      let within = check-good _ _ _ _ whole.1 in
      let no-flags = check-good _ _ _ _ within.1 in
      let found = no-flags.1 in
      let same : u32_at p at ≡ size = cc in
      record {
        least = omega (arith, leb-true);
        multiple = rw (← same) (eqb-true _ _ whole.0);
        within = omega (arith, leb-true);
        is = sym same;
        flags = eqb-true _ _ no-flags.0;
      }

  pub frame_found : Frame p at size → frame p at ≡ Ok size
  unfolding frame
  frame_found g =
      rw (← g.is)
      (check-passes _ _ _ (le-leb (at + 4) (length p) (omega (arith, g.least, g.within)))
      (check-passes _ _ _ (le-leb 8 size g.least)
      (check-passes _ _ _ (eq-eqb (size % 4) 0 g.multiple)
      (check-passes _ _ _ (le-leb (at + size) (length p) g.within) (check-passes _ _ _ (eq-eqb (u16_at p (at + 4)) 0 g.flags) refl)))))

-- what is around a section's stored bytes: its size is that of its headers and the stored bytes, padded, and the padding is zero
pub record Framed (p : List ℕ) (at size headers bytes : ℕ) : Type 0 where
  pub sized : size ≡ aligned (headers + bytes)
  pub zeros : all_zero (part p (at + headers + bytes) (padding (headers + bytes))) ≡ true
  pub within : headers + bytes ≤ size

module _ (p : List ℕ) (at size headers bytes : ℕ) where
  pub framed-good : framed p at size headers bytes ≡ Ok tt → Framed p at size headers bytes
  unfolding framed
  framed-good e =
      let whole = check-good _ _ _ _ e in
      let sized : size ≡ aligned (headers + bytes) = eqb-true _ _ whole.0 in
      record { sized = sized; zeros = (check-good _ _ _ _ whole.1).0; within = omega (arith, le-aligned (headers + bytes)) }

  pub framed-found : Framed p at size headers bytes → framed p at size headers bytes ≡ Ok tt
  unfolding framed
  framed-found g = check-passes _ _ _ (eq-eqb size (aligned (headers + bytes)) g.sized) (check-passes _ _ _ g.zeros refl)
