-- `parse_arguments` meets its contract: what is stored ends within the section, and a pair takes two bytes at least, so that the number of rows fits.
use Rattle.std.proofs.Common.{length, sym, arith}
use Rattle.format.proofs.FrameLaws.{framed-good}
use Rattle.format.proofs.PairLaws.{pairs-bound}
use Rattle.layout.proofs.Checked.{taking-ok}
use Rattle.parse.proofs.arguments.parse_arguments.Goals as goal

pub invariant_of-check_pairs-clause-within : goal.invariant_of-check_pairs-clause-within
invariant_of-check_pairs-clause-within c =
    let within = (framed-good _ _ c.args.section.size 20 _ (sym c.in_ok-check_framed.ensures)).within in
    omega (arith, within, c.args.section.within)

pub overflow_add-result : goal.overflow_add-result
overflow_add-result c =
    let within = (framed-good _ _ c.args.section.size 20 _ (sym c.in_ok-check_framed.ensures)).within in
    let (rs, found, count) = taking-ok length _ _ (sym c.in_ok-pairs.ensures) in
    omega (arith, within, (pairs-bound _ _ _ _ rs found).0, count, c.args.section.within, c.args.section.limited)
