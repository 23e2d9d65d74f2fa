-- Which bytes a side names.
use Prim.Native.Nat.{ℕ, zero, suc}
use mathlib.Core.Path.{◌≡◌, refl, ap}
use mathlib.Core.List.{List}
use Rattle.layout.specs.Spans.{side_of}

module _ (payload edit : List ℕ) where
  pub side_of-payload : {side : ℕ} → side ≡ 0 → side_of side payload edit ≡ payload
  unfolding side_of
  side_of-payload e = ap (λ (n : ℕ). side_of n payload edit) e

  pub side_of-edit : (side : ℕ) → (side ≡ 0 → ⊥) → side_of side payload edit ≡ edit
  unfolding side_of
  side_of-edit zero h = absurd (h refl)
  side_of-edit (suc n) h = refl

-- which bytes each side names
pub ruleset sides = (side_of-payload, side_of-edit)
