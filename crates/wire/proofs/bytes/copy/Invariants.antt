-- The loop of `copy`: the first bytes are those that are copied.
use Rattle.std.proofs.Common.{◌≡◌, take}
use Rattle.wire.proofs.bytes.copy.Given as goal

abbrev pub invariant-loop-i : goal.invariant-loop-i
invariant-loop-i l = take l.i l.to ≡ take l.i l.from
