-- `fill_rows` meets its contract: a turn stores the next row.
use Rattle.std.proofs.Common.{◌∷◌, [], length-append, refl, arith}
use Rattle.read.specs.Store.{store_rows}
use Rattle.read.proofs.Stored.{row-stored}
use Rattle.read.proofs.fill.fill_rows.Goals as goal

pub loop-row-init : goal.loop-row-init
unfolding store_rows
loop-row-init g c =
    rw c.into_iter-row-iterator.ensures.into_iter_gives
    (record {
      can_next = c.requires.can;
      is_finite = c.requires.index_bound.0;
      left = omega (arith, c.requires.start_bound, c.requires.index_bound.1);
      ends = omega arith;
      stored = refl;
    })

pub loop-row-preserved : goal.loop-row-preserved
loop-row-preserved g c =
    let so = c.loop-row.invariant in
    let (callable, finite, fewer) = c.in-Some.ensures.goes.on so.is_finite in
    let w = c.store_row-index.ensures in
    record {
      can_next = callable;
      is_finite = finite;
      left = omega (arith, so.left, fewer, w.value);
      ends = omega (arith, so.ends, w.value, length-append c.loop-row.yielded (c.in-Some.row ∷ []));
      stored = row-stored c.loop-row.yielded _ _ c.in-Some.row so.stored so.ends w.rows_after;
    }
