-- `copy_sections` meets its contract: a turn takes the next section that is left, stores its copy, if there is one, and counts it.
use Rattle.std.proofs.Common.{ap, ◌∙◌, arith}
use Rattle.format.proofs.Storing.{none-stored, item-within, item-stored, all-stored}
use Rattle.public_copy.proofs.CopyLaws.{copied-within, known_count, known-next}
use Rattle.public_copy.proofs.source_info.copy_sections.Goals as goal

pub loop-section-init : goal.loop-section-init
loop-section-init c =
    let all = c.into_iter-section-iterator.ensures.into_iter_gives ∙ c.new-section-items.ensures.value in
    (none-stored all, omega (arith, ap known_count all))

pub copy_section-to-requires : goal.copy_section-to-requires
copy_section-to-requires c =
    let room = copied-within c.args.payload.bytes.now c.args.payload.are_bytes c.args.payload.accepted in
    omega (arith, room, item-within c.loop-section.invariant.0 c.in-Some.ensures.steps)

pub loop-section-preserved : goal.loop-section-preserved
loop-section-preserved c =
    let w = c.copy_section-to.ensures in
    (item-stored c.loop-section.invariant.0 c.in-Some.ensures.steps w.value w.output_after, rw c.is_known.ensures (known-next _ _ _ c.in-Some.ensures.steps c.loop-section.invariant.1))

pub returns : goal.returns
returns c =
    let room = copied-within c.args.payload.bytes.now c.args.payload.are_bytes c.args.payload.accepted in
    let (ends, stored) = all-stored c.loop-section.invariant.0 c.in-None.ensures.steps.0 in
    record { value = ends; upper_bound = omega (arith, room, ends); sections_value = omega (arith, rw c.in-None.ensures.steps.0 at c.loop-section.invariant.1); output_after = stored }
