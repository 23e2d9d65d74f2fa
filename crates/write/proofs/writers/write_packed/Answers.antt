-- `write_packed` meets its contract: what closes the stored bytes is what stands around them.
use Rattle.write.proofs.SectionParts.{closed, packed-headed}
use Rattle.write.proofs.writers.write_packed.Goals as goal

pub returns-clause-output_after : goal.returns-clause-output_after
returns-clause-output_after c =
    let body = c.store_body-body.ensures in
    closed c.requires (packed-headed _ _ c.requires) _ body.start body.end (rw (body.output_after, c.row-row.ensures) at c.close_contents-at.ensures.output_after)
