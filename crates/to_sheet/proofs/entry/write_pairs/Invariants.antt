-- The loop of `write_pairs`: the lines of what is left are left to store.
use Rattle.format.proofs.Storing.{LeftOf}
use Rattle.to_sheet.specs.Entry.{pair_line}
use Rattle.to_sheet.proofs.entry.write_pairs.Given as goal

abbrev pub invariant-loop-pair : goal.invariant-loop-pair
invariant-loop-pair l = LeftOf pair_line l.fn.output l.initial.to l.fn.pairs l.output l.to l.pair-iterator
