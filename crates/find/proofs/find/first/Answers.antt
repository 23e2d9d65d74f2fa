-- What `position` finds, or the end, is what `until` counts.
use Rattle.std.proofs.Common.{rules, tests}
use Rattle.std.proofs.lemmas.Iterator.{YieldsList-from_slice}
use Rattle.std.proofs.lemmas.Iterator.Search.{position_from_yields_List}
use Rattle.find.specs.Find.{is_any}
use Rattle.find.proofs.FindLaws.{position-until}
use Rattle.find.proofs.find.first.Goals as goal

pub returns : goal.returns
returns g c =
    let a = c.args in
    position-until (is_any c.args.sought.now) a.bytes.now c.position.result c.unwrap_or.result
    (position_from_yields_List (is_any c.args.sought.now) _ _ c.position.result c.position.ensures.ran (YieldsList-from_slice a.bytes.now cc) (λ x b q k. search (rules, tests)))
    c.unwrap_or.ensures
