-- `write_names` meets its contract: what closes the stored bytes is what stands around them.
use Rattle.write.proofs.SectionParts.{closed, names-headed}
use Rattle.write.proofs.writers.write_names.Goals as goal

pub returns-clause-output_after : goal.returns-clause-output_after
returns-clause-output_after c =
    let body = c.store_body-body.ensures in
    closed c.requires (names-headed _ _ c.requires) _ body.start body.end (rw (body.output_after, body.count) at c.close_names-at.ensures.output_after)
