-- The last block, with the blocks before it, is the rest of the text.
use Rattle.std.proofs.Common.{◌≡◌, ℕ, ◌-◌, ◌≤◌, true, length, ap, arith}
use Rattle.validate.specs.Rule.{right_at}
use Rattle.validate.proofs.Runs.{below-block}
use Rattle.validate.proofs.RuleLaws.{block-right}
use Rattle.validate.proofs.rule.RightPart.carried_on.Goals as goal

pub invariant_of-result : goal.invariant_of-result
invariant_of-result c =
    let s = c.over_blocks-part.result.text.now in
    let last = length s - 16 in
    let long : 19 ≤ length s = omega (arith, ap length c.over_blocks-part.ensures, c.requires.1) in
    record {
      in_text = omega arith;
      each = λ i h. below-block (λ (k : ℕ). right_at s k ≡ true) last 16
          (λ k l. c.over_blocks-part.result.each k (omega arith))
          (block-right s last 16 (length s) (omega arith) (omega arith) (omega arith) (c.has_wrong.ensures c.if-has_wrong.false))
          i (omega arith);
    }
