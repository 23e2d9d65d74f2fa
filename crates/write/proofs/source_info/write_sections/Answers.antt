-- `source_info::write_sections` meets its contract: each turn stores the section that the position's row begins, and what the turns add up to
-- is `Turns.antt`'s.
use Rattle.std.proofs.Common.{arith}
use Rattle.write.proofs.Turns.{first-turn, writable, more-fits, next-turn, all-stored}
use Rattle.write.proofs.source_info.write_sections.Goals as goal

pub loop-position-init : goal.loop-position-init
loop-position-init c = first-turn _ _ _ _ c.requires

pub write_section-requires : goal.write_section-requires
write_section-requires c =
    let (begins, may) = writable _ _ _ _ c.loop-position.invariant (omega arith) in
    record { begins = begins; writable = may }

pub overflow_add-sections : goal.overflow_add-sections
overflow_add-sections c = omega (arith, more-fits _ _ _ _ c.loop-position.invariant (omega arith))

pub loop-position-preserved : goal.loop-position-preserved
loop-position-preserved c =
    next-turn _ _ _ _ c.loop-position.invariant (omega arith) _ _
    c.write_section.ensures.position_after
    c.write_section.ensures.output_after

pub returns-clause-value : goal.returns-clause-value
returns-clause-value c = (all-stored _ _ _ _ c.loop-position.invariant (omega arith)).0

pub returns-clause-output_after : goal.returns-clause-output_after
returns-clause-output_after c = (all-stored _ _ _ _ c.loop-position.invariant (omega arith)).1
