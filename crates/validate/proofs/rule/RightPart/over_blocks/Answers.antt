-- What holds up to the end is carried on over large blocks, and then over small ones.
use Rattle.std.proofs.Common.{◌+◌, refl, arith, rules}
use Rattle.validate.specs.Rule.{right_at}
use Rattle.validate.proofs.RuleLaws.{block-right}
use Rattle.validate.proofs.rule.RightPart.over_blocks.Goals as goal

pub invariant_of-result : goal.invariant_of-result
invariant_of-result c =
    let s = c.args.self.text.now in
    let large = c.blocks_end-large.ensures.passed (right_at s) c.args.self.each (λ i l f no. block-right s i 64 (i + 64) (omega arith) refl f (search rules)) in
    record {
      in_text = omega arith;
      each = c.blocks_end-end.ensures.passed (right_at s) large (λ i l f no. block-right s i 16 (i + 16) (omega arith) refl f (search rules));
    }
