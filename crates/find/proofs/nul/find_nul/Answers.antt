-- What was found is a NUL where it lies before the end.
use Rattle.std.proofs.Common.{◌≡◌, arith, rules}
use Rattle.find.specs.Nul.{until_nul}
use Rattle.find.proofs.nul.find_nul.Goals as goal

pub returns : goal.returns
returns c =
    let e : c.find_from-end.result ≡ until_nul c.args.bytes.now = unfold until_nul in omega arith in
    rw (← e) (search rules)
