-- A block without one takes its length off both sides.
use Rattle.std.proofs.Common.{arith}
use Rattle.find.specs.Find.{is_any}
use Rattle.find.proofs.FindLaws.{until-block}
use Rattle.find.proofs.find.after_blocks.Goals as goal

pub loop-block-preserved : goal.loop-block-preserved
loop-block-preserved g c =
    let a = c.args in
    let (block, after, long) = c.in-Some.ensures.cases in
    let step = until-block (is_any c.args.sought.now) _ _ _ block after (omega (arith, long)) (c.has_any.ensures c.if-has_any.false) in
    let so = c.loop-block.invariant in
    record { shorter = omega (arith, so.shorter, long); passed = omega (arith, so.passed, long, step) }
