-- The loop of `check_run`: the steps done, added to what the others come to, are what all come to.
use Rattle.std.proofs.Common.{◌≡◌, ℕ, ◌-◌, ◌≤◌}
use Rattle.layout.specs.Checked.{Checked}
use Rattle.parse.specs.Outcome.{add}
use Rattle.parse.specs.Run.{run}
use Rattle.parse.proofs.run.check_run.Given as goal

abbrev pub invariant-loop-done : goal.invariant-loop-done
invariant-loop-done g l = record {
  within : l.at ≤ l.end;
  rest :
      (step : ℕ → Checked ℕ) →
      ((at : ℕ) (r : Checked ℕ) → at ≤ l.end → goal.F-post g l.check at r → r ≡ step at) →
      run step l.end l.count l.start ≡ add l.done (run step l.end (l.count - l.done) l.at);
}
