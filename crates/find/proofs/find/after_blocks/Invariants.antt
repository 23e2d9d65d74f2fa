-- The loop's invariant: the bytes that were passed have none.
use Rattle.std.proofs.Common.{◌≡◌, ◌≤◌, ◌+◌, length}
use Rattle.find.specs.Find.{until, is_any}
use Rattle.find.proofs.find.after_blocks.Given as goal

abbrev pub invariant-loop-block : goal.invariant-loop-block
invariant-loop-block g l = record {
  shorter : length l.rest ≤ length l.bytes;
  passed : until (is_any l.sought) l.bytes + length l.rest ≡ length l.bytes + until (is_any l.sought) l.rest;
}

abbrev pub decreases-loop-block : goal.decreases-loop-block
decreases-loop-block g l = length l.rest
