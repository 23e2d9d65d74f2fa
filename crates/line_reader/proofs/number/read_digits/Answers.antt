-- `read_digits` meets its contract: a byte that is no digit, and a number that is too large, decide at once.
use Rattle.std.proofs.Common.{◌≡◌, ◌≤◌, ◌+◌, ◌*◌, ◌-◌, ◌^◌, [], sym, ap, ◌∙◌, drop, get_or, arith}
use lib.ListN.{drop_of_length-le}
use Rattle.line_reader.specs.Numbers.{spelt_told}
use Rattle.line_reader.proofs.NumberLaws.{spelt-large, spelt-digit, spelt-other, spelt-end}
use Rattle.line_reader.proofs.number.read_digits.Goals as goal

pub returns-then-not-is_ascii_digit : goal.returns-then-not-is_ascii_digit
returns-then-not-is_ascii_digit c =
    sym (sym c.loop-byte.invariant.told ∙ spelt-other _ _ _ c.loop-byte-test.true (sym c.is_ascii_digit.ensures.value ∙ c.if-not-is_ascii_digit.true))

pub returns-in_err-checked_mul : goal.returns-in_err-checked_mul
returns-in_err-checked_mul c =
    let is = sym c.is_ascii_digit.ensures.value ∙ c.if-not-is_ascii_digit.false in
    let large : 2 ^ 32 ≤ 10 * c.loop-byte.n + (get_or c.args.field.now c.loop-byte.byte-index 0 - 48) = omega (arith, c.in_err-checked_mul.ensures) in
    c.from_residual.ensures ∙ sym (sym c.loop-byte.invariant.told ∙ spelt-digit _ _ _ c.loop-byte-test.true is ∙ spelt-large _ _ large)

pub returns-in_err-n : goal.returns-in_err-n
returns-in_err-n c =
    let is = sym c.is_ascii_digit.ensures.value ∙ c.if-not-is_ascii_digit.false in
    let large : 2 ^ 32 ≤ 10 * c.loop-byte.n + (get_or c.args.field.now c.loop-byte.byte-index 0 - 48) = omega (arith, c.in_err-n.ensures, c.in_ok-checked_mul.ensures) in
    c.from_residual-in_err-n.ensures ∙ sym (sym c.loop-byte.invariant.told ∙ spelt-digit _ _ _ c.loop-byte-test.true is ∙ spelt-large _ _ large)

pub loop-byte-preserved : goal.loop-byte-preserved
loop-byte-preserved c =
    let is = sym c.is_ascii_digit.ensures.value ∙ c.if-not-is_ascii_digit.false in
    let n : c.in_ok-n.n ≡ 10 * c.loop-byte.n + (get_or c.args.field.now c.loop-byte.byte-index 0 - 48) = omega (arith, c.in_ok-n.ensures, c.in_ok-checked_mul.ensures) in
    record { small = omega (arith, c.in_ok-n.ensures); told = rw n (sym (spelt-digit _ _ _ c.loop-byte-test.true is) ∙ c.loop-byte.invariant.told) }

pub returns : goal.returns
returns c =
    let end : drop c.loop-byte.byte-index c.args.field.now ≡ [] = drop_of_length-le _ c.loop-byte-test.false in
    sym (sym c.loop-byte.invariant.told ∙ ap (spelt_told c.loop-byte.n) end ∙ spelt-end c.loop-byte.n c.loop-byte.invariant.small)
