-- The rule of the table at the byte.
use Rattle.std.proofs.Common.{rules}
use Rattle.utf8.proofs.classes.Classes.class.Goals as goal

pub returns : goal.returns
returns c = c.args.self.of_each_byte.entry c.args.byte (search rules)
