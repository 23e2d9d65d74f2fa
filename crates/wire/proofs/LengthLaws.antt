-- A text's length and its wire size convert both ways, and only 0 and sizes that are too large have no text.
-- Assumes nothing.
use Rattle.std.specs.Prelude.{None, Some}
use mathlib.Core.Path.{◌≡◌, refl, ap}
use mathlib.Core.Bool.{Bool, true, false}
use Prim.Native.Nat.{ℕ, zero, suc, ◌+◌, ◌^◌, ◌<◌}
use native.Mathlib.Numerals.{add-one}
use native.Mathlib.Nat.{le_of_suc-le-suc}
use native.Mathlib.Omega.{arith}
use lib.Dec.{ltb}
use borrow.Author.Tests.{lt-ltb, le-ltb}
use Rattle.wire.specs.Length.{wire_size, terminated}
use Rattle.wire.specs.declared.length.TextLength.{TextLength}

pub terminated-wire_size : (n : ℕ) → n < 2 ^ 32 → terminated (wire_size n) ≡ Some (record { 0 = n })
unfolding terminated
terminated-wire_size n h = rw (add-one, lt-ltb n (2 ^ 32) h, terminated)

pub wire_size-terminated : (s : ℕ) (t : TextLength) → terminated s ≡ Some t → s ≡ wire_size t.0
unfolding terminated
wire_size-terminated zero t e = cc
wire_size-terminated (suc n) t e = go (ltb n (2 ^ 32)) e
  where
    go : (b : Bool) → elim b [ true ↦ Some (record { 0 = n }) | false ↦ None ] ≡ Some t → suc n ≡ t.0 + 1
    go true f = let g : ◌≡◌ {A = TextLength} (record { 0 = n }) t = cc in rw add-one (ap (λ (r : TextLength). suc r.0) g)
    go false f = cc

-- a size that is past every length of 32 bits has no text
pub terminated-past : (s : ℕ) → 2 ^ 32 < s → terminated s ≡ None
unfolding terminated
terminated-past zero h = refl
terminated-past (suc n) h = rw (le-ltb n (2 ^ 32) (le_of_suc-le-suc h), terminated)

-- what a size has
pub ruleset text_lengths = (terminated-past, terminated-wire_size)

-- of the sizes that a number of 32 bits can hold, only 0 has none
pub no_text : (s : ℕ) → s < 2 ^ 32 → terminated s ≡ None → s ≡ 0
no_text zero h e = refl
no_text (suc n) h e =
    let f : terminated (suc n) ≡ Some (record { 0 = n }) = rw add-one at (terminated-wire_size n (omega arith)) in
    cc
