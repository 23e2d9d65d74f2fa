-- `parse_contents` meets its contract: what is stored ends within the section.
use Rattle.std.proofs.Common.{sym, arith}
use Rattle.format.proofs.FrameLaws.{framed-good}
use Rattle.parse.proofs.contents.parse_contents.Goals as goal

pub check_stored-requires-clause-bytes_in_bounds : goal.check_stored-requires-clause-bytes_in_bounds
check_stored-requires-clause-bytes_in_bounds c =
    omega (arith, (framed-good _ _ c.args.section.size 28 _ (sym c.in_ok-check_framed.ensures)).within, c.args.section.within)
