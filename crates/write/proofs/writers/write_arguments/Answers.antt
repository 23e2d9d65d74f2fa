-- `write_arguments` meets its contract: what closes the stored bytes is what stands around them.
use Rattle.write.proofs.SectionParts.{closed, arguments-headed}
use Rattle.write.proofs.writers.write_arguments.Goals as goal

pub returns-clause-output_after : goal.returns-clause-output_after
returns-clause-output_after c =
    let body = c.store_body-body.ensures in
    closed c.requires (arguments-headed _ _ c.requires) _ body.start body.end (rw (body.output_after, body.count) at c.close_arguments-at.ensures.output_after)
