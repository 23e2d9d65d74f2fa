-- `TableRows::new` meets its contract: the rows of a table are those of its chunks.
use Rattle.table.proofs.Rows.{rows-chunks}
use Rattle.table.proofs.table_rows.TableRows.new.Goals as goal

pub returns : goal.returns
returns c = rw c.as_chunks.ensures.front (rows-chunks c.args.table.now)
