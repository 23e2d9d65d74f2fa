-- The loop of `write_entries`: the entries that are left are left to store.
use Rattle.std.proofs.Common.{◌+◌, ◌*◌, ◌-◌}
use Rattle.format.proofs.Storing.{Left}
use Rattle.public_copy.proofs.ContentsLaws.{empties}
use Rattle.public_copy.proofs.contents.write_entries.Given as goal

abbrev pub invariant-loop-done : goal.invariant-loop-done
invariant-loop-done l = Left l.fn.output l.to (empties l.count) l.output (l.to + 16 * l.done) (empties (l.count - l.done))
