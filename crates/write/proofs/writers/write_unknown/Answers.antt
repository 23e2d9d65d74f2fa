-- `write_unknown` meets its contract: what closes the stored bytes is what stands around them.
use Rattle.std.proofs.Common.{arith, ap}
use Rattle.table.specs.declared.row.Row.{Row}
use Rattle.write.proofs.SectionParts.{closed, unknown-headed, kind-fits}
use Rattle.write.proofs.writers.write_unknown.Goals as goal

pub returns-clause-output_after : goal.returns-clause-output_after
returns-clause-output_after c =
    let body = c.store_body-body.ensures in
    closed c.requires (unknown-headed _ _ c.requires) _ body.start body.end (rw (body.output_after, c.row-row.ensures) at c.close_section-at.ensures.output_after)

pub overflow_cast-kind : goal.overflow_cast-kind
overflow_cast-kind c = omega (arith, ap (λ (r : Row). r.a) c.row-row.ensures, kind-fits _ _ c.requires)
