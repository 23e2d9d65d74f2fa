-- `Row::load` meets its contract: a row is the seven numbers of a chunk, and past the last chunk there is none.
use Rattle.std.proofs.Common.{[], arith, sym}
use Rattle.table.proofs.Rows.{chunk-row, past-row}
use Rattle.table.proofs.row.Row.load.Goals as goal

pub returns-in-Some : goal.returns-in-Some
returns-in-Some c =
    rw (c.of_numbers.ensures, c.in-Some.ensures.lookup.3.1 [])
    (chunk-row c.args.table.now c.args.index _ c.as_chunks.ensures.front)

pub returns-in-None : goal.returns-in-None
returns-in-None c =
    let past = c.in-None.ensures.lookup.3 in
    sym (past-row c.args.table.now c.args.index (omega (arith, past, c.as_chunks.ensures.front_len)))
