-- `store_entries` meets its contract: a turn stores an entry, and where no record of the tag is next, all are stored.
use Rattle.std.proofs.Common.{Some, sym, ap, ◌∙◌, length, arith}
use Rattle.format.proofs.Storing.{left-next, left-none}
use Rattle.from_sheet.specs.Run.{entry_bytes, run_bytes}
use Rattle.from_sheet.proofs.RunLaws.{more, no-run}
use Rattle.from_sheet.proofs.run.store_entries.Goals as goal

pub store_entry-to-requires : goal.store_entry-to-requires
store_entry-to-requires c =
    let (own, is) = c.in-Some.ensures in
    let m = more (Some c.args.tag) c.in-Some.record c.next_of.new.self (ap Some own) is in
    omega (arith, m.size, c.loop-record.invariant.left.ends)

pub loop-record-preserved : goal.loop-record-preserved
loop-record-preserved c =
    let (own, is) = c.in-Some.ensures in
    let r = c.in-Some.record in
    let m = more (Some c.args.tag) r c.next_of.new.self (ap Some own) is in
    record {
      after = sym m.after ∙ c.loop-record.invariant.after;
      counted = omega (arith, m.many);
      left = left-next (entry_bytes r.tag r) (run_bytes (Some c.args.tag) c.next_of.new.self) m.bytes c.loop-record.invariant.left c.store_entry-to.ensures.value c.store_entry-to.ensures.output_after;
    }

pub returns : goal.returns
returns c =
    let (none, same) = c.in_default.ensures in
    let (empty, stays) = no-run (Some c.args.tag) c.loop-record.records none in
    let (there, stored) = left-none empty c.loop-record.invariant.left in
    record {
      records_after = same ∙ sym stays ∙ c.loop-record.invariant.after;
      to_value = there;
      count_value = omega (arith, ap length none);
      output_after = stored;
    }
