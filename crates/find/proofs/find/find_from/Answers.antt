-- Past the end there is nothing to find; and a place that is found is none past the end.
use Rattle.std.proofs.Common.{arith, length-drop, ℕ, [], ◌∷◌}
use Rattle.find.specs.Find.{is_any}
use Rattle.find.proofs.FindLaws.{until-least, until-past}
use Rattle.find.proofs.find.find_from.Goals as goal

pub returns-then-bytes-at-clause-value : goal.returns-then-bytes-at-clause-value
returns-then-bytes-at-clause-value c =
    let a = c.args in omega (arith, until-past (is_any (a.byte ∷ [])) a.bytes.now a.at (omega arith))

pub overflow_add-result : goal.overflow_add-result
overflow_add-result c = let a = c.args in omega (arith, until-least (is_any (a.byte ∷ [])), length-drop {A = ℕ})

pub returns-clause-upper_bound : goal.returns-clause-upper_bound
returns-clause-upper_bound c = let a = c.args in omega (arith, until-least (is_any (a.byte ∷ [])), length-drop {A = ℕ})
