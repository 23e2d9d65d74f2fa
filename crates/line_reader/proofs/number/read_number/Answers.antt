-- `read_number` meets its contract: how the field begins says whether its digits decide.
use Rattle.std.proofs.Common.{sym, ◌∙◌, arith}
use borrow.Author.Tests.{eqb-true, eqb-false}
use Rattle.line_reader.proofs.NumberLaws.{number-none, number-led, number-spelt}
use Rattle.line_reader.proofs.number.read_number.Goals.{else-leading_zero-via-then-leading_zero+else-field-gt1, else-leading_zero-via-else-leading_zero}
use Rattle.line_reader.proofs.number.read_number.Goals as goal

pub returns-then-is_empty : goal.returns-then-is_empty
returns-then-is_empty c = sym (number-none _ (eqb-true _ _ (sym c.is_empty.ensures ∙ c.if-is_empty.true)))

pub returns-then-field-gt1 : goal.returns-then-field-gt1
returns-then-field-gt1 c = sym (number-led _ (omega arith) (omega arith))

pub returns : goal.returns
returns c =
    let some = eqb-false _ _ (sym c.is_empty.ensures ∙ c.if-is_empty.false) in
    c.read_digits.ensures ∙
    sym (number-spelt _ (omega arith)
    (λ l e. elim c.else-leading_zero.branch [
      | else-leading_zero-via-then-leading_zero+else-field-gt1 w ↦ omega arith
      | else-leading_zero-via-else-leading_zero w ↦ w.if-leading_zero.false e
    ]))
