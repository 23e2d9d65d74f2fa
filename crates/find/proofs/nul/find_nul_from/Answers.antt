-- A first byte that is 0 is the first NUL, and `find_from` counts from the start, not from the place.
use Rattle.std.proofs.Common.{sym, arith}
use Rattle.find.specs.Nul.{until_nul}
use Rattle.find.proofs.NulLaws.{until-nul, until-past}
use Rattle.find.proofs.nul.find_nul_from.Goals as goal

pub returns-then-bytes-at : goal.returns-then-bytes-at
returns-then-bytes-at c = sym (until-past c.args.bytes.now c.args.at (omega arith))

pub returns-then-bytes-at-eq0 : goal.returns-then-bytes-at-eq0
returns-then-bytes-at-eq0 c = sym (until-nul c.args.bytes.now c.args.at (omega arith))

pub returns : goal.returns
unfolding until_nul
returns c = omega arith
