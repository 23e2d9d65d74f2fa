-- The loop of `write_contents`: the lines of what is left are left to store.
use Rattle.format.proofs.Storing.{LeftOf}
use Rattle.to_sheet.specs.Entry.{content_line}
use Rattle.to_sheet.proofs.entry.write_contents.Given as goal

abbrev pub invariant-loop-entry : goal.invariant-loop-entry
invariant-loop-entry l = LeftOf content_line l.fn.output l.initial.to l.fn.entries l.output l.to l.entry-iterator
