-- `check_run` meets its contract, turn by turn.
use Rattle.std.proofs.Common.{◌≡◌, ◌-◌, ◌∙◌, sym, ap, arith}
use Rattle.std.specs.Prelude.{Ok}
use Rattle.std.proofs.lemmas.Result.{err_from_is_err_and}
use Rattle.parse.specs.Outcome.{add}
use Rattle.parse.proofs.RunLaws.{run-ended, run-leftover, run-stop, run-turn}
use Rattle.parse.proofs.run.check_run.Goals as goal

pub returns-in_err-at : goal.returns-in_err-at
returns-in_err-at g c step agrees =
    let p = err_from_is_err_and c.from_residual.result c.from_residual.ensures.1 in
    let so = c.loop-done.invariant in
    let e = sym (agrees _ _ so.within c.in_err-at.ensures) in
    rw (p.1, p.2) (sym (so.rest step agrees ∙ run-stop _ _ _ _ _ c.loop-done-test.true _ e))

pub loop-done-preserved : goal.loop-done-preserved
loop-done-preserved g c =
    let so = c.loop-done.invariant in
    record {
      within = c.requires.inside _ _ so.within c.in_ok-at.ensures;
      rest =
          λ step agrees.
          so.rest step agrees ∙ run-turn _ _ _ _ _ c.loop-done-test.true _ (sym (agrees _ _ so.within c.in_ok-at.ensures));
    }

pub returns-then-at-end : goal.returns-then-at-end
returns-then-at-end g c step agrees =
    let none : c.args.count - c.loop-done.done ≡ 0 = omega arith in
    sym (c.loop-done.invariant.rest step agrees ∙ rw none (ap (add _) (run-ended _ _ _ c.if-at-end.true) ∙ ap Ok (omega arith)))

pub returns : goal.returns
returns g c step agrees =
    let none : c.args.count - c.loop-done.done ≡ 0 = omega arith in
    sym (c.loop-done.invariant.rest step agrees ∙ rw none (ap (add _) (run-leftover _ _ _ c.if-at-end.false)))
