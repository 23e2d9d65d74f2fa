-- The laws of padding, each from the arithmetic of the four remainders, and of runs of zeros.
-- Assumes nothing.
use mathlib.Core.Path.{◌≡◌, refl, ap, ◌∙◌}
use mathlib.Core.List.{List, [], ◌∷◌}
use mathlib.Core.Bool.{true, false, ◌&&◌}
use Prim.Native.Nat.{ℕ, zero, suc, ◌+◌, ◌-◌, ◌%◌, ◌≤◌, ◌<◌}
use native.Mathlib.Nat.{mod-lt, mod-mod}
use native.Mathlib.Omega.{arith}
use lib.Dec.{lit<, eqb, eqb-suc-zero}
use Rattle.std.specs.List.{list_all}
use lib.ListN.{length, replicate}
use Rattle.wire.specs.Padding.{padding, aligned, all_zero}

-- only the remainder counts, and there are four
of-remainder : (n : ℕ) → padding n ≡ padding (n % 4)
unfolding padding
of-remainder n = rw mod-mod

at-remainder : (r : ℕ) → r < 4 → padding r ≡ (4 - r) % 4
unfolding padding
at-remainder zero h = refl
at-remainder (suc zero) h = refl
at-remainder (suc (suc zero)) h = refl
at-remainder (suc (suc (suc zero))) h = refl
at-remainder (suc (suc (suc (suc r)))) h = omega arith

pub padding-by-arithmetic : (n : ℕ) → padding n ≡ (4 - n % 4) % 4
padding-by-arithmetic n = of-remainder n ∙ at-remainder (n % 4) (mod-lt n (lit< tt))

pub padding-below : (n : ℕ) → padding n < 4
padding-below n = omega (arith, padding-by-arithmetic n)

pub ruleset padding_bounds = (padding-below)

-- ---- a length with its padding is the least multiple of 4 that is not below it

pub aligned-by-arithmetic : (n : ℕ) → aligned n ≡ n + (4 - n % 4) % 4
unfolding aligned
aligned-by-arithmetic n = ap (λ (k : ℕ). n + k) (padding-by-arithmetic n)

pub aligned-multiple : (n : ℕ) → aligned n % 4 ≡ 0
aligned-multiple n = omega (arith, aligned-by-arithmetic n)

pub le-aligned : (n : ℕ) → n ≤ aligned n
le-aligned n = omega (arith, aligned-by-arithmetic n)

pub aligned-least : (n m : ℕ) → n ≤ m → m % 4 ≡ 0 → aligned n ≤ m
aligned-least n m h e = omega (arith, aligned-by-arithmetic n)

pub aligned-of-multiple : (n : ℕ) → n % 4 ≡ 0 → aligned n ≡ n
aligned-of-multiple n e = omega (arith, aligned-by-arithmetic n)

-- ---- zeros

pub all_zero-replicate : (n : ℕ) → all_zero (replicate n 0) ≡ true
unfolding all_zero
all_zero-replicate zero = refl
all_zero-replicate (suc n) = all_zero-replicate n

pub zeros-are : (s : List ℕ) → all_zero s ≡ true → s ≡ replicate (length s) 0
unfolding all_zero
zeros-are [] e = refl
zeros-are (zero ∷ s) e = ap (λ (t : List ℕ). 0 ∷ t) (zeros-are s e)
zeros-are (suc b ∷ s) e =
    let z : false ≡ true = rw (eqb-suc-zero, all_zero) at e in
    cc

-- the test of each byte
pub all_zero-is : (s : List ℕ) → list_all (λ b. eqb b 0) s ≡ all_zero s
unfolding all_zero
all_zero-is [] = refl
all_zero-is (zero ∷ s) = all_zero-is s
all_zero-is (suc b ∷ s) = rw (eqb-suc-zero, all_zero, list_all, ◌&&◌)
