-- Decimal digits, by the definition: the last one, and those before it; and that a number below a power of ten has no more than its exponent says.
-- Assumes nothing.
use Prim.Native.Nat.{ℕ, zero, suc, ◌/◌, ◌%◌, ◌^◌, ◌≤◌, ◌<◌}
use mathlib.Core.Bool.{Bool, true, false}
use mathlib.Core.List.{List, [], ◌∷◌, ◌++◌}
use mathlib.Core.Path.{◌≡◌, sym, ap, ◌∙◌}
use native.Mathlib.Nat.{pow-suc}
use native.Mathlib.Omega.{arith}
use native.Mathlib.Decide.{dec_le}
use borrow.Author.Tests.{lt-ltb, le-ltb}
use lib.Dec.{ltb}
use lib.ListN.{length, length-append}
use Rattle.format.specs.Display.{digit, decimal_within, decimal}

-- ---- the definition, digit by digit

first : (b : Bool) (x y : List ℕ) → b ≡ true → elim b [ true ↦ x | false ↦ y ] ≡ x
first b x y e = rw e

within-last : (digits n : ℕ) → n < 10 → decimal_within (suc digits) n ≡ digit n ∷ []
unfolding decimal_within
within-last digits n h = first (ltb n 10) (digit n ∷ []) (decimal_within digits (n / 10) ++ (digit (n % 10) ∷ [])) (lt-ltb n 10 h)

within_more : (digits n : ℕ) → 10 ≤ n → decimal_within (suc digits) n ≡ decimal_within digits (n / 10) ++ (digit (n % 10) ∷ [])
unfolding decimal_within
within_more digits n h = rw (decimal_within, le-ltb n 10 h)

-- more room for digits makes no difference
within-enough : (k m n : ℕ) → n < k → n < m → decimal_within k n ≡ decimal_within m n
within-enough zero m n h i = absurd (omega arith)
within-enough (suc k) zero n h i = absurd (omega arith)
within-enough (suc k) (suc m) n h i =
    elim (dec_le 10 n) [
      | yes q ↦
          within_more k n q ∙
          ap (λ (l : List ℕ). l ++ (digit (n % 10) ∷ [])) (within-enough k m (n / 10) (omega arith) (omega arith)) ∙
          sym (within_more m n q)
      | no q ↦ within-last k n (omega arith) ∙ sym (within-last m n (omega arith))
    ]

pub decimal-last : (n : ℕ) → n < 10 → decimal n ≡ digit n ∷ []
decimal-last n h = within-last n n h

pub decimal-more : (n : ℕ) → 10 ≤ n → decimal n ≡ decimal (n / 10) ++ (digit (n % 10) ∷ [])
decimal-more n h =
    within_more n n h ∙ ap (λ (l : List ℕ). l ++ (digit (n % 10) ∷ [])) (within-enough n (suc (n / 10)) (n / 10) (omega arith) (omega arith))

-- ---- its length

pub decimal-short : (k n : ℕ) → n < 10 ^ suc k → length (decimal n) ≤ suc k
decimal-short zero n h = rw (decimal-last n (omega arith)) (omega arith)
decimal-short (suc k) n h =
    elim (dec_le 10 n) [
      | yes q ↦
          let rest = decimal-short k (n / 10) (omega (arith, pow-suc 10 (suc k))) in
          rw (decimal-more n q) (omega (arith, rest, length-append (decimal (n / 10)) (digit (n % 10) ∷ [])))
      | no q ↦ rw (decimal-last n (omega arith)) (omega arith)
    ]
