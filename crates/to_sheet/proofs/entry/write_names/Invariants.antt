-- The loop of `write_names`: the lines of what is left are left to store.
use Rattle.format.proofs.Storing.{LeftOf}
use Rattle.to_sheet.specs.Entry.{name_line}
use Rattle.to_sheet.proofs.entry.write_names.Given as goal

abbrev pub invariant-loop-entry : goal.invariant-loop-entry
invariant-loop-entry l = LeftOf name_line l.fn.output l.initial.to l.fn.entries l.output l.to l.entry-iterator
