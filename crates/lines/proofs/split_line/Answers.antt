-- `split_line` meets its contract: where the search comes to the end, no newline ends the first line.
use Rattle.lines.proofs.Turns.{none-closed, first-closed}
use Rattle.lines.proofs.split_line.Goals as goal

pub returns-then-lines-end : goal.returns-then-lines-end
returns-then-lines-end c = none-closed c.args.lines.now c.find_from-end.result c.find_from-end.ensures.value c.if-lines-end.true

pub returns : goal.returns
returns c = first-closed c.args.lines.now c.find_from-end.result c.find_from-end.ensures.value c.if-lines-end.false
