-- The loop of `decode_numbers`: no more numbers are put than there is room for.
use Rattle.std.proofs.Common.{◌≤◌, length}
use Rattle.replay.proofs.decode_numbers.Given as goal

abbrev pub invariant-loop-field : goal.invariant-loop-field
invariant-loop-field l = l.count ≤ length l.out
