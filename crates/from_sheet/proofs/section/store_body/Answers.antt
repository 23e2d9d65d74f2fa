-- `store_body` meets its contract: a section stores the bytes that a field of its line says, and has no entries, or it stores its entries.
use Rattle.std.proofs.Common.{sym, ap, ◌∙◌, length, arith}
use Rattle.from_sheet.proofs.SectionParts.{packed-own, unknown-own, entries-stored, few-entries}
use Rattle.from_sheet.proofs.section.store_body.Goals as goal

pub write_unpaired-requires-clause-field_bound : goal.write_unpaired-requires-clause-field_bound
write_unpaired-requires-clause-field_bound c =
    let own = packed-own c.args.record.now c.args.records.now _ c.in-PackedContents.ensures c.field.ensures.value in
    omega (arith, ap length own.stored)

pub write_unpaired-requires-in-Unknown-clause-field_bound : goal.write_unpaired-requires-in-Unknown-clause-field_bound
write_unpaired-requires-in-Unknown-clause-field_bound c =
    let own = unknown-own c.args.record.now c.args.records.now _ c.in-Unknown.ensures c.field-in-Unknown.ensures.value in
    omega (arith, ap length own.stored)

pub returns-in-PackedContents : goal.returns-in-PackedContents
returns-in-PackedContents c =
    let own = packed-own c.args.record.now c.args.records.now _ c.in-PackedContents.ensures c.field.ensures.value in
    record {
      records_after = sym own.past_all;
      to_value = rw own.stored c.write_unpaired.ensures.value;
      count_value = sym (ap length own.none);
      output_after = rw own.stored c.write_unpaired.ensures.output_after;
    }

pub returns-in-Unknown : goal.returns-in-Unknown
returns-in-Unknown c =
    let own = unknown-own c.args.record.now c.args.records.now _ c.in-Unknown.ensures c.field-in-Unknown.ensures.value in
    record {
      records_after = sym own.past_all;
      to_value = rw own.stored c.write_unpaired-in-Unknown.ensures.value;
      count_value = sym (ap length own.none);
      output_after = rw own.stored c.write_unpaired-in-Unknown.ensures.output_after;
    }

pub store_entries-requires : goal.store_entries-requires
store_entries-requires c =
    let r = c.args.record.now in
    let rs = c.args.records.now in
    let stored = entries-stored r.tag r rs c.requires.begins (λ e. c.in_default.not-PackedContents (c.tag.ensures ∙ e)) (λ e. c.in_default.not-Unknown (c.tag.ensures ∙ e)) in
    rw (c.in-Some.ensures, c.tag.ensures)
    (record {
      few = omega (arith, few-entries r.tag r rs c.requires.begins, c.requires.bound);
      bound = omega (arith, ap length stored, c.requires.bound);
    })

pub returns-in-Some : goal.returns-in-Some
returns-in-Some c =
    let r = c.args.record.now in
    let rs = c.args.records.now in
    let stored = entries-stored r.tag r rs c.requires.begins (λ e. c.in_default.not-PackedContents (c.tag.ensures ∙ e)) (λ e. c.in_default.not-Unknown (c.tag.ensures ∙ e)) in
    let e = rw (c.in-Some.ensures, c.tag.ensures) at c.store_entries.ensures in
    record {
      records_after = e.records_after;
      to_value = rw stored e.to_value;
      count_value = e.count_value;
      output_after = rw stored e.output_after;
    }
