-- `split_record` meets its contract: where a newline ends the first line, that line is checked, and so are those after it.
use Rattle.from_sheet.proofs.RecordsFrom.{next, records-next, records-end}
use Rattle.from_sheet.proofs.records.split_record.Goals as goal

pub new-requires : goal.new-requires
new-requires c = (next c.args.lines.now c.in-Some.line.now c.in-Some.rest.now c.in-Some.ensures c.requires).0

pub returns-in-Some-clause-records : goal.returns-in-Some-clause-records
returns-in-Some-clause-records c = rw c.new.ensures (records-next c.args.lines.now c.in-Some.line.now c.in-Some.rest.now c.in-Some.ensures)

pub returns-in-Some-clause-checked : goal.returns-in-Some-clause-checked
returns-in-Some-clause-checked c = (next c.args.lines.now c.in-Some.line.now c.in-Some.rest.now c.in-Some.ensures c.requires).1

pub returns-in-None-clause-records : goal.returns-in-None-clause-records
returns-in-None-clause-records c = records-end c.args.lines.now c.in-None.ensures
