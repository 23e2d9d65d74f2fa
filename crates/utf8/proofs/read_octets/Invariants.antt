-- The loop's invariant: reading on from the place gives the answer from the start on, since each turn passes over a whole character.
use Rattle.std.proofs.Common.{length, ◌-◌, ◌≡◌, drop}
use Rattle.utf8.specs.Rfc3629.{octets_from}
use Rattle.utf8.proofs.read_octets.Given as goal

abbrev pub invariant-loop-at : goal.invariant-loop-at
invariant-loop-at l = octets_from 0 l.at (drop l.at l.text) ≡ octets_from 0 l.fn.from (drop l.fn.from l.text)

abbrev pub decreases-loop-at : goal.decreases-loop-at
decreases-loop-at l = length l.text - l.at
