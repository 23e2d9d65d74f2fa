-- The loop of `count`: no more were found than the number that it is at.
use Rattle.std.proofs.Common.{◌≤◌}
use Rattle.utf8_table.proofs.count.Given as goal

abbrev pub invariant-loop-number : goal.invariant-loop-number
invariant-loop-number l = l.found ≤ l.number
