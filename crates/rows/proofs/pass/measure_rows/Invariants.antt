-- The loop of `measure_rows`: measuring the rows left from the present sizes gives what measuring all of them gives.
use Rattle.std.proofs.Common.{◌≡◌}
use Rattle.table.specs.Rows.{rows_of}
use Rattle.sizes.specs.Measure.{nothing}
use Rattle.rows.specs.Measure.{measure_from}
use Rattle.rows.proofs.pass.measure_rows.Given as goal

abbrev pub invariant-loop-row : goal.invariant-loop-row
invariant-loop-row l =
    measure_from l.sides.payload.now l.sides.edit.now l.sizes l.row-iterator ≡ measure_from l.sides.payload.now l.sides.edit.now nothing (rows_of l.rows)
