-- The loop's invariant: where no wrong byte was found, those that were passed are right.
use Rattle.std.proofs.Common.{◌≡◌, ℕ, ◌+◌, ◌<◌, true, false, get_or}
use Rattle.validate.specs.Rule.{right}
use Rattle.validate.proofs.rule.has_wrong.Given as goal

abbrev pub invariant-loop-k : goal.invariant-loop-k
invariant-loop-k l = l.found ≡ false → (k : ℕ) → k + 3 < l.k → right (get_or l.bytes k 0) (get_or l.bytes (k + 1) 0) (get_or l.bytes (k + 2) 0) (get_or l.bytes (k + 3) 0) ≡ true
