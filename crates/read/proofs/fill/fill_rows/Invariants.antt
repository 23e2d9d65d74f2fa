-- The loop of `fill_rows`: the rows so far are stored one after the other.
use Rattle.std.proofs.Common.{◌≡◌, ◌+◌, ◌≤◌, length}
use Rattle.format.specs.Encoding.{limit}
use Rattle.read.specs.Store.{store_rows}
use Rattle.read.proofs.fill.fill_rows.Given as goal

abbrev pub invariant-loop-row : goal.invariant-loop-row
invariant-loop-row g l =
    let turns = goal.iterator-loop-row g in
    record {
      can_next : turns.can_next l.row-iterator;
      is_finite : turns.is_finite l.row-iterator;
      left : l.index + turns.remaining l.row-iterator ≤ limit;
      ends : l.index ≡ l.initial.index + length l.yielded;
      stored : l.rows ≡ store_rows l.fn.rows l.initial.index l.yielded;
    }
