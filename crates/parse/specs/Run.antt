-- How a run is counted whose every step is checked and tells the next place.
use Rattle.std.specs.Prelude.{ℕ, zero, suc, eqb, Ok}
use Rattle.layout.specs.Checked.{Checked, check, then}
use Rattle.layout.specs.declared.refusal.Refusal.TheVariants.{Leftover}
use Rattle.parse.specs.Outcome.{add}

-- as many steps as the count says, up to `end`: their number, or the first fault
unfoldable pub run : (ℕ → Checked ℕ) → ℕ → ℕ → ℕ → Checked ℕ
run step end zero at = check (eqb at end) Leftover (λ _. Ok 0)
run step end (suc count) at = then (step at) (λ next. add 1 (run step end count next))
