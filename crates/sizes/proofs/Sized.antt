-- How a measured size is found.
-- Assumes nothing.
use Rattle.std.specs.Prelude.{Ok}
use Prim.Native.Nat.{ℕ}
use mathlib.Core.Bool.{Bool, true, false}
use mathlib.Core.List.{List}
use mathlib.Core.Path.{◌≡◌, refl}
use lib.ListN.{length}
use Rattle.layout.specs.Checked.{check}
use Rattle.layout.specs.declared.refusal.Refusal.{Refusal}
use Rattle.sizes.specs.Measure.{sized}

-- bytes that pass a test, by their number
pub sized-check : (test : Bool) (r : Refusal) (bytes : List ℕ) → (check test r (λ _. Ok (length bytes))) ≡ sized (check test r (λ _. Ok bytes))
unfolding check
sized-check true r bytes = refl
sized-check false r bytes = refl
