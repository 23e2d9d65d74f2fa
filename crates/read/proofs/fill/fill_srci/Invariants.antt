-- The loop of `fill_srci`: the rows of the sections that are left, stored from here on, give the table that the whole walk gives.
use Rattle.std.proofs.Common.{◌≡◌, ◌+◌, length}
use mathlib.Core.List.{flat_map}
use Rattle.format.specs.Walk.{walk}
use Rattle.read.specs.Store.{rows_of, store_rows}
use Rattle.read.proofs.fill.fill_srci.Given as goal

abbrev pub invariant-loop-section : goal.invariant-loop-section
invariant-loop-section l = record {
  ends : l.index + length (flat_map rows_of l.section-iterator) ≡ length (walk l.payload.bytes.now);
  rest : store_rows l.rows l.index (flat_map rows_of l.section-iterator) ≡ store_rows l.fn.rows 0 (walk l.payload.bytes.now);
}
