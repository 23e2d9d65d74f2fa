-- `write_names` meets its contract: a turn stores the line of the next one.
use Rattle.std.proofs.Common.{arith}
use Rattle.format.proofs.Storing.{none-stored, item-within, item-stored, all-stored}
use Rattle.to_sheet.proofs.entry.write_names.Goals as goal

pub loop-entry-init : goal.loop-entry-init
loop-entry-init c = none-stored c.into_iter-entry-iterator.ensures.into_iter_gives

pub write_name-to-requires : goal.write_name-to-requires
write_name-to-requires c = omega (arith, c.requires, item-within c.loop-entry.invariant c.in-Some.ensures.steps)

pub loop-entry-preserved : goal.loop-entry-preserved
loop-entry-preserved c =
    let w = c.write_name-to.ensures in
    item-stored c.loop-entry.invariant c.in-Some.ensures.steps w.value w.output_after

pub returns : goal.returns
returns c =
    let (ends, stored) = all-stored c.loop-entry.invariant c.in-None.ensures.steps.0 in
    record { value = ends; output_after = stored }
