-- The loop of `measure`: measuring what is left of the lines from the present sizes gives what measuring all of them gives, and the number is that of
-- the next line, or the last one that 32 bits hold.
use Rattle.std.proofs.Common.{◌≡◌, ℕ, min, length}
use Rattle.sizes.specs.Measure.{nothing}
use Rattle.lines.proofs.Turns.{measure_from}
use Rattle.lines.proofs.measure.Given as goal

abbrev pub invariant-loop-rest : goal.invariant-loop-rest
invariant-loop-rest l = (n : ℕ) × (l.number ≡ min n 4294967295) × (measure_from n l.sizes l.rest ≡ measure_from 1 nothing l.sheet)

abbrev pub decreases-loop-rest : goal.decreases-loop-rest
decreases-loop-rest l = length l.rest
