-- The loop of `write`: the lines of the sections that are left are to store.
use Rattle.format.proofs.Storing.{LeftOf}
use Rattle.accepted.specs.Sections.{sections}
use Rattle.to_sheet.specs.Entry.{lines_of}
use Rattle.to_sheet.proofs.source_info.SheetJob.write.Given as goal

abbrev pub invariant-loop-section : goal.invariant-loop-section
invariant-loop-section l = LeftOf lines_of l.fn.output 0 (sections l.payload.bytes.now) l.output l.to l.section-iterator
