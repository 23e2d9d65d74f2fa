-- The loop of `store_entries`: the entries of the records left, stored from here on, give the output that those of all records give, and end at the same
-- record, at the same place and with as many.
use Rattle.std.proofs.Common.{Some, ◌≡◌, ◌+◌, length}
use Rattle.format.proofs.Storing.{Left}
use Rattle.from_sheet.specs.Run.{run, run_bytes, past}
use Rattle.from_sheet.proofs.run.store_entries.Given as goal

abbrev pub invariant-loop-record : goal.invariant-loop-record
invariant-loop-record l = record {
  after : past (Some l.tag) l.records ≡ past (Some l.tag) l.initial.records;
  counted : l.count + length (run (Some l.tag) l.records) ≡ length (run (Some l.tag) l.initial.records);
  left : Left l.initial.output l.start (run_bytes (Some l.tag) l.initial.records) l.output l.to (run_bytes (Some l.tag) l.records);
}

abbrev pub decreases-loop-record : goal.decreases-loop-record
decreases-loop-record l = length l.records
