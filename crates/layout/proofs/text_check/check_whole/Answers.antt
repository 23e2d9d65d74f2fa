-- `check_whole` meets its contract: a plain text passes; of any other the answer of `validate` decides the first test, and the place of the first
-- NUL the second.
use Rattle.std.proofs.Common.{◌∙◌, sym, ap}
use Rattle.std.specs.Option.{is_some}
use borrow.Author.Tests.{ltb-true, ltb-false}
use Rattle.std.proofs.lemmas.Result.{err_from_is_err_and}
use Rattle.utf8.proofs.Laws.{well-formed, not-well-formed}
use Rattle.utf8.proofs.PlainBytes.{plain_at}
use Rattle.find.proofs.NulLaws.{some-nul}
use Rattle.layout.proofs.PlainText.{plain_passes}
use Rattle.layout.proofs.TextCheck.{whole-not-utf8, whole-inner-nul, whole-passed}
use Rattle.layout.proofs.text_check.check_whole.Goals as goal

pub returns-then-are_plain : goal.returns-then-are_plain
returns-then-are_plain c = sym (plain_passes _ (plain_at _ (sym c.are_plain.ensures ∙ c.if-are_plain.true)))

pub returns-in_err-validate : goal.returns-in_err-validate
returns-in_err-validate c =
    let p = err_from_is_err_and c.from_residual.result c.from_residual.ensures.1 in
    rw (p.1, p.2) (sym (whole-not-utf8 _ (not-well-formed _ _ (sym c.in_err-validate.ensures))))

pub returns-then-is_some : goal.returns-then-is_some
returns-then-is_some c =
    let there = sym (some-nul _) ∙ ap is_some (sym c.find_nul.ensures) ∙ sym c.is_some.ensures ∙ c.if-is_some.true in
    sym (whole-inner-nul _ (well-formed _ (sym c.in_ok-validate.ensures)) (ltb-true _ _ there))

pub returns-else-is_some : goal.returns-else-is_some
returns-else-is_some c =
    let none = sym (some-nul _) ∙ ap is_some (sym c.find_nul.ensures) ∙ sym c.is_some.ensures ∙ c.if-is_some.false in
    sym (whole-passed _ (well-formed _ (sym c.in_ok-validate.ensures)) (ltb-false _ _ none))
