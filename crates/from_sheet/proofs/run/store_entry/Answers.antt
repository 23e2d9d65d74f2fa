-- `store_entry` meets its contract: by its tag a record is a content, a name, a pair or nothing.
use Rattle.std.proofs.Common.{sym, ap, length, arith}
use Rattle.from_sheet.proofs.Said.{content-is, name-is, pair_is}
use Rattle.from_sheet.proofs.run.store_entry.Goals as goal

pub store_content-requires : goal.store_content-requires
store_content-requires c = omega (arith, ap length (content-is c.args.record.now _ (sym c.in-Content.ensures) c.field.ensures.value))

pub store_name-requires : goal.store_name-requires
store_name-requires c = omega (arith, ap length (name-is c.args.record.now _ (sym c.in-Name.ensures) c.field-in-Name.ensures.value c.number.ensures))

pub store_pair-requires : goal.store_pair-requires
store_pair-requires c = omega (arith, ap length (pair_is c.args.record.now _ _ (sym c.in-Pair.ensures) c.field-in-Pair.ensures.value c.field-in-Pair-2.ensures.value))

pub returns-in-Content : goal.returns-in-Content
returns-in-Content c = rw (content-is c.args.record.now _ (sym c.in-Content.ensures) c.field.ensures.value) c.store_content.ensures

pub returns-in-Name : goal.returns-in-Name
returns-in-Name c = rw (name-is c.args.record.now _ (sym c.in-Name.ensures) c.field-in-Name.ensures.value c.number.ensures) c.store_name.ensures

pub returns-in-Pair : goal.returns-in-Pair
returns-in-Pair c = rw (pair_is c.args.record.now _ _ (sym c.in-Pair.ensures) c.field-in-Pair.ensures.value c.field-in-Pair-2.ensures.value) c.store_pair.ensures
