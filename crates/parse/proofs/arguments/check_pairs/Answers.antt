-- `check_pairs` meets its contract: a pair ends within the part, and pairs are a run whose step is the check of one.
use Rattle.std.proofs.Common.{◌≡◌, ◌∙◌, ℕ, sym, arith, rules}
use Rattle.std.specs.Prelude.{Ok}
use Rattle.layout.specs.Checked.{Checked}
use Rattle.layout.proofs.Checked.{taking-ok}
use Rattle.format.specs.Parse.{pair, after_pair}
use Rattle.format.proofs.PairLaws.{pair-good}
use Rattle.parse.specs.Outcome.{place_of}
use Rattle.parse.proofs.RunLaws.{pairs-run}
use Rattle.parse.proofs.arguments.check_pairs.Goals as goal

pub check_run-requires-clause-inside : goal.check_run-requires-clause-inside
check_run-requires-clause-inside c at next low met =
    let part = c.args.part in
    let e : ◌≡◌ {A = Checked ℕ} (Ok next) (place_of after_pair (pair part.payload.now at part.end)) = search rules in
    let (r, found, there) = taking-ok after_pair _ next (sym e) in
    omega (arith, there, (pair-good _ _ _ r found).1)

pub returns : goal.returns
returns c = c.check_run.ensures _ (λ at r low met. search rules) ∙ pairs-run c.args.part.payload.now c.args.part.end c.args.count c.args.start
