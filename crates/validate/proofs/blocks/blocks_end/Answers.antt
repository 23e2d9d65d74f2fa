-- What holds of every place below one is carried on over a block.
use Rattle.std.proofs.Common.{◌≡◌, true, arith}
use Rattle.validate.proofs.Runs.{below-block}
use Rattle.validate.proofs.blocks.blocks_end.Goals as goal

pub loop-end-preserved : goal.loop-end-preserved
loop-end-preserved g c = (
  omega arith,
  omega arith,
  λ holds before block.
      below-block (λ k. holds k ≡ true) c.loop-end.end g.row.SIZE (c.loop-end.invariant.2 holds before block)
      (block c.loop-end.end (omega arith) (omega arith) c.if-not-has_fault.ensures),
)
