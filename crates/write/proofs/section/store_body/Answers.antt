-- `store_body` meets its contract: by the tag of the section, its row's bytes or its entries are what it stores.
use Rattle.std.proofs.Common.{refl, sym, ap, ◌∙◌, length, arith}
use Rattle.table.proofs.Rows.{length-rows_of}
use Rattle.write.proofs.SectionParts.{fits, own, run, onward}
use Rattle.write.proofs.section.store_body.Goals as goal

pub overflow_add-first : goal.overflow_add-first
overflow_add-first c = omega (arith, length-rows_of c.args.source.now.rows.now, c.requires.writable.0)

pub overflow_add-stored : goal.overflow_add-stored
overflow_add-stored c = omega (arith, fits c.requires)

-- ---- a section whose row names its bytes

pub overflow_add-result : goal.overflow_add-result
overflow_add-result c =
    let (stored, none) = own c.requires c.entry_tag.ensures c.in-None.is c.row.ensures c.bytes-bytes.ensures in
    omega (arith, fits c.requires, ap length stored)

pub overflow_cast-result-in-None : goal.overflow_cast-result-in-None
overflow_cast-result-in-None c =
    let (stored, none) = own c.requires c.entry_tag.ensures c.in-None.is c.row.ensures c.bytes-bytes.ensures in
    omega (arith, fits c.requires, ap length stored)

pub returns-in-None : goal.returns-in-None
returns-in-None c =
    let (stored, none) = own c.requires c.entry_tag.ensures c.in-None.is c.row.ensures c.bytes-bytes.ensures in
    record {
      start = refl;
      end = omega (arith, ap length stored);
      count = cc;
      index = omega (arith, onward c.requires, none);
      output_after = cc;
    }

-- ---- a section that has entries

pub write_run-after-requires : goal.write_run-after-requires
write_run-after-requires c =
    let r = run c.requires (sym c.in-Some.is ∙ c.entry_tag.ensures) in
    record { first_in_bounds = omega (arith, c.requires.writable.0); bound = omega (arith, fits c.requires, ap length r.stored) }

pub overflow_cast-result-in-Some-2 : goal.overflow_cast-result-in-Some-2
overflow_cast-result-in-Some-2 c =
    let r = run c.requires (sym c.in-Some.is ∙ c.entry_tag.ensures) in
    omega (arith, fits c.requires, ap length r.stored)

pub overflow_cast-result-in-Some-3 : goal.overflow_cast-result-in-Some-3
overflow_cast-result-in-Some-3 c =
    let r = run c.requires (sym c.in-Some.is ∙ c.entry_tag.ensures) in
    omega (arith, fits c.requires, ap length r.stored)

pub returns-in-Some : goal.returns-in-Some
returns-in-Some c =
    let r = run c.requires (sym c.in-Some.is ∙ c.entry_tag.ensures) in
    record {
      start = refl;
      end = omega (arith, ap length r.stored);
      count = omega arith;
      index = omega (arith, onward c.requires, r.count);
      output_after = cc;
    }
