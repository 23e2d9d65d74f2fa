-- `write_pairs` meets its contract: a turn stores the line of the next one.
use Rattle.std.proofs.Common.{arith}
use Rattle.format.proofs.Storing.{none-stored, item-within, item-stored, all-stored}
use Rattle.to_sheet.proofs.entry.write_pairs.Goals as goal

pub loop-pair-init : goal.loop-pair-init
loop-pair-init c = none-stored c.into_iter-pair-iterator.ensures.into_iter_gives

pub write_pair-to-requires : goal.write_pair-to-requires
write_pair-to-requires c = omega (arith, c.requires, item-within c.loop-pair.invariant c.in-Some.ensures.steps)

pub loop-pair-preserved : goal.loop-pair-preserved
loop-pair-preserved c =
    let w = c.write_pair-to.ensures in
    item-stored c.loop-pair.invariant c.in-Some.ensures.steps w.value w.output_after

pub returns : goal.returns
returns c =
    let (ends, stored) = all-stored c.loop-pair.invariant c.in-None.ensures.steps.0 in
    record { value = ends; output_after = stored }
