-- The laws of reading a number: a digit at a time, and by how it begins.
-- Assumes nothing.
use Rattle.std.specs.Prelude.{None, Some}
use Prim.Native.Nat.{ℕ, ◌+◌, ◌-◌, ◌*◌, ◌^◌, ◌≤◌, ◌<◌}
use mathlib.Core.Bool.{Bool, true, false, and-true, and-false}
use mathlib.Core.List.{List, [], ◌∷◌}
use mathlib.Core.Path.{◌≡◌, refl}
use native.Mathlib.Numerals.{add-one}
use native.Mathlib.Omega.{arith}
use borrow.Author.Tests.{lt-ltb, le-ltb, lt-leb, ltb-false}
use lib.Dec.{ltb}
use lib.ListN.{length, get_or, drop}
use lib.Seq.{drop-cons}
use Rattle.sheet.specs.Fields.{all, is_digit, spelt, is_decimal, is_number}
use Rattle.line_reader.specs.Numbers.{number_told, spelt_told}

-- ---- digits after a number

-- more digits make no smaller number
spelt-least : (n : ℕ) (ds : List ℕ) → n ≤ spelt n ds
unfolding spelt
spelt-least n [] = omega arith
spelt-least n (d ∷ ds) = omega (arith, spelt-least (10 * n + (d - 48)) ds)

pub spelt-large : (n : ℕ) (ds : List ℕ) → 2 ^ 32 ≤ n → spelt_told n ds ≡ None
spelt-large n ds h = rw (le-ltb (spelt n ds) (2 ^ 32) (omega (arith, spelt-least n ds)), and-false)

module _ (n : ℕ) (s : List ℕ) (i : ℕ) (h : i < length s) where
  pub spelt-digit : is_digit (get_or s i 0) ≡ true → spelt_told n (drop i s) ≡ spelt_told (10 * n + (get_or s i 0 - 48)) (drop (i + 1) s)
  unfolding all spelt
  spelt-digit e = rw (add-one, drop-cons s i 0 h, e)

  pub spelt-other : is_digit (get_or s i 0) ≡ false → spelt_told n (drop i s) ≡ None
  unfolding all
  spelt-other e = rw (drop-cons s i 0 h, e)

pub spelt-end : (n : ℕ) → n < 2 ^ 32 → spelt_told n [] ≡ Some n
unfolding all spelt
spelt-end n h = rw (lt-ltb n (2 ^ 32) h)

-- ---- a field

pub number-none : (f : List ℕ) → length f ≡ 0 → number_told f ≡ None
unfolding is_number is_decimal
number-none [] e = refl
number-none (d ∷ f) e = absurd (omega arith)

-- a 0 before others
pub number-led : (f : List ℕ) → 1 < length f → get_or f 0 0 ≡ 48 → number_told f ≡ None
unfolding is_number is_decimal
number-led [] h e = absurd (omega arith)
number-led (d ∷ []) h e = absurd (omega arith)
number-led (d ∷ c ∷ f) h e = rw (le-ltb 48 d (omega arith))

pub number-spelt : (f : List ℕ) → 0 < length f → (1 < length f → get_or f 0 0 ≡ 48 → ⊥) → number_told f ≡ spelt_told 0 f
unfolding is_number is_decimal all
number-spelt [] h n = absurd (omega arith)
number-spelt (d ∷ []) h n = rw and-true
number-spelt (d ∷ c ∷ f) h n = go (ltb 48 d) refl
  where
    go : (more : Bool) → ltb 48 d ≡ more → number_told (d ∷ c ∷ f) ≡ spelt_told 0 (d ∷ c ∷ f)
    go true e = rw e
    -- what is less than a 0 is no digit
    go false e = rw (e, lt-leb 48 d (let l : d < 48 = omega (arith, ltb-false 48 d e, n (omega arith)) in l))
