-- Counting on: what a loop of the first pass has counted is added to what the rest of the walk answers.
-- Assumes nothing.
use Rattle.std.specs.Prelude.{Err, Ok}
use Prim.Native.Nat.{ℕ, ◌+◌}
use mathlib.Core.List.{List, ◌∷◌}
use mathlib.Core.Path.{◌≡◌, refl, ap, sym}
use native.Mathlib.Nat.{zero-add, add_assoc}
use native.Mathlib.Numerals.{one-add}
use lib.ListN.{length}
use Rattle.layout.specs.Checked.{Checked, then}
use Rattle.table.specs.declared.row.Row.{Row}
use Rattle.parse.specs.Outcome.{counted}
pub use Rattle.parse.specs.Outcome.{add}

pub add_none : (c : Checked ℕ) → add 0 c ≡ c
add_none (Ok n) = ap Ok (zero-add n)
add_none (Err refusal) = refl

pub add-add : (j k : ℕ) (c : Checked ℕ) → add j (add k c) ≡ add (j + k) c
add-add j k (Ok n) = ap Ok (sym (add_assoc j k n))
add-add j k (Err refusal) = refl

-- a row before the rest of a walk is one more
pub counted-more : (r : Row) (rest : Checked (List Row)) → counted (then rest (λ rs. Ok (r ∷ rs))) ≡ add 1 (counted rest)
unfolding then
counted-more r (Err refusal) = refl
counted-more r (Ok rs) = ap Ok (sym (one-add (length rs)))
