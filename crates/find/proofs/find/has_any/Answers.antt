-- A block in which none is found has none.
use Rattle.std.proofs.Common.{rules, tests, ◌∙◌, sym}
use Rattle.std.specs.List.{list_any}
use Rattle.std.proofs.lemmas.Iterator.{YieldsList-from_slice}
use Rattle.std.proofs.lemmas.Iterator.Search.{any_from_yields_List}
use Rattle.std.specs.Prelude.{eqb}
use Rattle.find.proofs.FindLaws.{none-found}
use Rattle.find.proofs.find.has_any.Goals as goal

pub returns : goal.returns
returns g c =
    let block = c.args.block.now in
    let is = any_from_yields_List (λ a. list_any (λ b. eqb b a) block) _ _ c.any.result c.any.ensures.ran (YieldsList-from_slice c.args.sought.now cc) (λ x b q k. search (rules, tests)) in
    λ e. none-found c.args.sought.now block (sym is ∙ e)
