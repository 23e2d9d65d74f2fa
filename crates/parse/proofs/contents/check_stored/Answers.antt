-- `check_stored` meets its contract: entries take two bytes each at least, so that their number fits.
use Rattle.std.proofs.Common.{length, sym, arith}
use Rattle.layout.proofs.Checked.{taking-ok}
use Rattle.format.specs.Parse.{content_row_at}
use Rattle.format.proofs.EntryLaws.{entries-bound}
use Rattle.parse.proofs.contents.check_stored.Goals as goal

pub overflow_add-result : goal.overflow_add-result
overflow_add-result c =
    let (rs, found, count) = taking-ok length _ _ (sym c.in_ok-entries.ensures) in
    omega (arith, entries-bound 12 _ _ content_row_at _ _ rs found, count, c.requires.bytes_in_bounds, c.args.section.within, c.args.section.limited)
