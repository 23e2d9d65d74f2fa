-- The walk goes forward, step by step: what the loops and branches of a second pass need of it.
-- Assumes nothing.
use Prim.Native.Nat.{ℕ, zero, suc, ◌+◌, ◌≤◌}
use mathlib.Core.List.{List}
use mathlib.Core.Path.{◌≡◌, refl, ap}
use native.Mathlib.Omega.{arith}
use lib.ListN.{length}
use Rattle.wire.specs.Number.{u32_at}
use Rattle.format.specs.Parse.{after_pair}
use Rattle.format.specs.Walk.{places_from, entries_end, pair_at, pairs_end}

module _ (p : List ℕ) where
  -- ---- entries and pairs

  pub entries-forward : (count at : ℕ) → at ≤ entries_end p count at
  unfolding entries_end
  entries-forward zero at = omega arith
  entries-forward (suc count) at = omega (arith, entries-forward count (at + u32_at p at))

  pub pairs-forward : (count at : ℕ) → at ≤ pairs_end p count at
  unfolding pairs_end
  pairs-forward zero at = omega arith
  pairs-forward (suc count) at = omega (arith, pairs-forward count (after_pair (pair_at p at)))

  -- ---- sections

  pub length-places : (count at : ℕ) → length (places_from p count at) ≡ count
  unfolding places_from
  length-places zero at = refl
  length-places (suc count) at = ap suc (length-places count (at + u32_at p at))
