-- `check_pair` meets its contract: a name ends before `part.end`, so that the value is looked for before it too.
use Rattle.std.proofs.Common.{◌≡◌, ℕ, sym, ap, arith}
use Rattle.format.proofs.PairLaws.{pair_text-good}
use Rattle.layout.proofs.Checked.{taking-ok}
use Rattle.wire.specs.declared.length.TextLength.{TextLength}
use Rattle.parse.proofs.arguments.check_pair.Goals as goal

pub check_pair_text-requires-2 : goal.check_pair_text-requires-2
check_pair_text-requires-2 c =
    let found = taking-ok (λ (n : ℕ). record { 0 = n }) _ c.in_ok-name.name (sym c.in_ok-name.ensures) in
    let same : found.0 ≡ c.in_ok-name.name.0 = ap (λ (t : TextLength). t.0) found.2 in
    let ends = (pair_text-good _ _ _ _ found.1).0 in
    omega arith
