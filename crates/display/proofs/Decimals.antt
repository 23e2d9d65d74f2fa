-- Decimal digits: the number of digits that the kit's `io::decimal` finds is the right one, and its digits are those of the definition.
-- Assumes nothing.
use Prim.Native.Nat.{ℕ, zero, suc, ◌-◌, ◌/◌, ◌%◌, ◌^◌, ◌≤◌, ◌<◌}
use mathlib.Core.List.{List, [], ◌∷◌, ◌++◌}
use mathlib.Core.Path.{◌≡◌, sym, ap₂, ◌∙◌}
use native.Mathlib.Nat.{pow-suc, pow-le-pow_right, one-le-pow}
use native.Mathlib.Decide.{dec_le}
use native.Mathlib.Omega.{arith}
use borrow.Author.Tests.{lt-ltb}
use Rattle.io.specs.Digits.{hex_digit_ascii, last_digits, IsDigitCount}
use Rattle.format.specs.Display.{digit, decimal}
use Rattle.format.proofs.DecimalLaws.{decimal-last, decimal-more}

same-digit : (n : ℕ) → n < 10 → hex_digit_ascii n ≡ digit n
same-digit n h = rw (lt-ltb n 10 h)

pub digits_decimal : (k n : ℕ) → IsDigitCount 10 1 n k → last_digits 10 k n ≡ decimal n
digits_decimal zero n (least, below, above) = absurd (omega arith)
digits_decimal (suc zero) n (least, below, above) =
    let small : n < 10 = omega arith in
    let one : n % 10 ≡ n = omega arith in
    rw (one, decimal-last n small, same-digit n small)
digits_decimal (suc (suc k)) n (least, below, above) =
    let before : suc (suc k) - 1 ≡ suc k = omega arith in
    let low : 10 ^ suc k ≤ n = rw (← before) (above (omega arith)) in
    let big : 10 ≤ n = omega (arith, pow-suc 10 k, one-le-pow k 10 (omega arith)) in
    let rest = digits_decimal (suc k) (n / 10) (omega arith, omega (arith, pow-suc 10 (suc k)), λ h. (let one : suc k - 1 ≡ k = omega arith in rw one (omega (arith, pow-suc 10 k)))) in
    ap₂ (λ (l : List ℕ) (d : ℕ). l ++ (d ∷ [])) rest (same-digit (n % 10) (omega arith)) ∙ sym (decimal-more n big)

-- a number of 32 bits has at most ten
digits-few : (k n : ℕ) → n < 2 ^ 32 → IsDigitCount 10 1 n k → k ≤ 10
digits-few k n h (least, below, above) = elim (dec_le k 10) [
  | yes q ↦ q
  | no q ↦
      let more : 10 ^ 10 ≤ 10 ^ (k - 1) = pow-le-pow_right {n = 10} (omega arith) {i = 10} {j = k - 1} (omega arith) in
      absurd (omega (arith, more, above (omega arith)))
]

pub digits-found : (k n : ℕ) → n < 2 ^ 32 → IsDigitCount 10 1 n k → (last_digits 10 k n ≡ decimal n) × (k ≤ 10)
digits-found k n h is = (digits_decimal k n is, digits-few k n h is)

pub ruleset decimals = (digits-found)
