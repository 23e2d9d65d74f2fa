-- What was found lies within the bytes.
use Rattle.std.proofs.Common.{arith}
use Rattle.find.specs.Find.{is_any}
use Rattle.find.proofs.FindLaws.{until-least}
use Rattle.find.proofs.find.find_any.Goals as goal

pub overflow_add-result : goal.overflow_add-result
overflow_add-result g c = let a = c.args in omega (arith, until-least (is_any c.args.sought.now))
