-- `store_section` meets its contract: what the section stores, and then what closes it, make the section.
use Rattle.std.proofs.Common.{arith}
use Rattle.from_sheet.proofs.RunLaws.{past-fewer}
use Rattle.from_sheet.proofs.SectionBegun.{begun-here, body-within, entries-within, closed-here, next-sections, next-order}
use Rattle.from_sheet.proofs.section.store_section.Goals as goal

pub store_body-body-requires : goal.store_body-body-requires
store_body-body-requires c =
    let r = c.args.record.now in
    let rs = c.args.records.now in
    let h = begun-here r rs c.requires.order in
    let within = body-within r rs c.requires.order in
    rw (c.headers_size.ensures, c.tag.ensures)
    (record {
      begins = h.begins;
      bound = omega (arith, within, c.requires.bound);
    })

pub overflow_cast-body : goal.overflow_cast-body
overflow_cast-body c =
    let within = body-within c.args.record.now c.args.records.now c.requires.order in
    let e = rw (c.headers_size.ensures, c.tag.ensures) at c.store_body-body.ensures.to_value in
    omega (arith, within, e, c.requires.bound)

pub overflow_cast-body-2 : goal.overflow_cast-body-2
overflow_cast-body-2 c =
    let within = body-within c.args.record.now c.args.records.now c.requires.order in
    let few = entries-within c.args.record.now c.args.records.now c.requires.order in
    omega (arith, within, few, c.requires.bound, c.store_body-body.ensures.count_value)

pub close-requires-clause-begins : goal.close-requires-clause-begins
close-requires-clause-begins c = (begun-here c.args.record.now c.args.records.now c.requires.order).begins

pub returns : goal.returns
returns c =
    let r = c.args.record.now in
    let rs = c.args.records.now in
    let body = rw (c.headers_size.ensures, c.tag.ensures) at c.store_body-body.ensures in
    let (after, stored) = closed-here r rs c.requires.order c.args.output.now c.store_body-body.new.output c.close.new.output c.args.to c.store_body-body.result.to c.store_body-body.result.count c.close.result
    body.to_value body.output_after body.count_value c.close.ensures.value c.close.ensures.framed in
    record {
      fewer = rw body.records_after (past-fewer _ rs);
      order_after = rw body.records_after (next-order r rs c.requires.order);
      sections = rw body.records_after (next-sections r rs c.requires.order);
      to_value = after;
      output_after = stored;
    }
