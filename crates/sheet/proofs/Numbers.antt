-- Numbers: the decimal of a number is read as it, and digits that do not begin with 0 are the decimal of what they are read as.
-- Assumes nothing.
use Prim.Native.Nat.{ℕ, zero, suc, ◌+◌, ◌-◌, ◌*◌, ◌/◌, ◌%◌, ◌^◌, ◌≤◌, ◌<◌}
use mathlib.Core.Bool.{true, and-eq-true_iff}
use mathlib.Core.List.{List, [], ◌∷◌, ◌++◌, append-nil, append_assoc}
use mathlib.Core.Path.{◌≡◌, refl, sym, ap, ap₂, ◌∙◌}
use native.Mathlib.Decide.{dec_le}
use native.Mathlib.Nat.{zero-add}
use native.Mathlib.Omega.{arith}
use borrow.Author.Tests.{leb-true, le-leb, ltb-true, lt-ltb, ne_eqb}
use lib.Dec.{leb, ltb}
use Rattle.format.specs.Display.{digit, decimal}
use Rattle.format.proofs.DecimalLaws.{decimal-last, decimal-more}
use Rattle.sheet.specs.Fields.{tab, newline, all, is_digit, spelt, number_of, is_decimal, is_number}
use Rattle.sheet.proofs.Codec.{Within, Codec}

-- ---- digits

-- the digit of a number below 10
digit-small : (n : ℕ) → n < 10 → digit n ≡ 48 + n
digit-small n h = rw (lt-ltb n 10 h)

digit-is : (n : ℕ) → n < 10 → is_digit (48 + n) ≡ true
digit-is n h = rw (le-leb 48 (48 + n) (omega arith), le-leb (48 + n) 57 (omega arith))

is_digit_lem : (d : ℕ) → is_digit d ≡ true → (48 ≤ d) × (d ≤ 57)
is_digit_lem d e =
    let (least, most) = (and-eq-true_iff (leb 48 d) (leb d 57)).0 e in
    (leb-true 48 d least, leb-true d 57 most)

all_append : (a b : List ℕ) → all is_digit a ≡ true → all is_digit b ≡ true → all is_digit (a ++ b) ≡ true
unfolding all
all_append [] b e f = f
all_append (d ∷ a) b e f =
    let (this, rest) = (and-eq-true_iff (is_digit d) (all is_digit a)).0 e in
    rw (this, all_append a b rest f)

decimal-digits : (f : List ℕ) → is_decimal f ≡ true → all is_digit f ≡ true
unfolding is_decimal all
decimal-digits [] e = refl
decimal-digits (d ∷ []) e = rw e
decimal-digits (d ∷ e ∷ f) h = ((and-eq-true_iff (ltb 48 d) (all is_digit (d ∷ e ∷ f))).0 h).1

digits-within : (f : List ℕ) → all is_digit f ≡ true → Within f
unfolding all
digits-within [] h = (tt, tt)
digits-within (d ∷ f) h =
    let (this, rest) = (and-eq-true_iff (is_digit d) (all is_digit f)).0 h in
    let (least, most) = is_digit_lem d this in
    let (t, n) = digits-within f rest in
    ((ne_eqb d tab (λ q. omega arith), t), (ne_eqb d newline (λ q. omega arith), n))

-- ---- a number, as it is spelt

spelt-append : (n : ℕ) (a b : List ℕ) → spelt n (a ++ b) ≡ spelt (spelt n a) b
unfolding spelt
spelt-append n [] b = refl
spelt-append n (d ∷ a) b = spelt-append (10 * n + (d - 48)) a b

-- one more digit, after a number that is not 0
decimal-next : (f : List ℕ) (d : ℕ) → is_decimal f ≡ true → 1 ≤ number_of f → is_digit d ≡ true → is_decimal (f ++ (d ∷ [])) ≡ true
unfolding is_decimal spelt all
decimal-next [] d e h is = absurd cc
decimal-next (c ∷ []) d e h is = rw (lt-ltb 48 c (omega arith), e, is)
decimal-next (c ∷ b ∷ f) d e h is =
    let (first, digits) = (and-eq-true_iff (ltb 48 c) (all is_digit (c ∷ b ∷ f))).0 e in
    rw (first, all_append (c ∷ b ∷ f) (d ∷ []) digits (rw is))

-- the decimal of a number below a bound
decimal-read : (k n : ℕ) → n < k → (is_decimal (decimal n) ≡ true) × (number_of (decimal n) ≡ n)
unfolding is_decimal spelt
decimal-read zero n h = absurd (omega arith)
decimal-read (suc k) n h =
    elim (dec_le 10 n) [
      | yes q ↦
          let (is, back) = decimal-read k (n / 10) (omega arith) in
          let last : digit (n % 10) ≡ 48 + n % 10 = digit-small (n % 10) (omega arith) in
          let text : decimal n ≡ decimal (n / 10) ++ ((48 + n % 10) ∷ []) = decimal-more n q ∙ ap (λ (d : ℕ). decimal (n / 10) ++ (d ∷ [])) last in (
            rw text (decimal-next (decimal (n / 10)) (48 + n % 10) is (omega arith) (digit-is (n % 10) (omega arith))),
            rw text (spelt-append 0 (decimal (n / 10)) ((48 + n % 10) ∷ []) ∙ rw back (omega arith)),
          )
      | no q ↦
          let text : decimal n ≡ (48 + n) ∷ [] = decimal-last n (omega arith) ∙ ap (λ (d : ℕ). d ∷ []) (digit-small n (omega arith)) in
          (rw text (digit-is n (omega arith)), rw text (omega arith))
    ]

-- ---- digits, as a number's decimal

-- digits after a number that is not 0
decimal-spelt : (n : ℕ) (ds : List ℕ) → 1 ≤ n → all is_digit ds ≡ true → decimal (spelt n ds) ≡ decimal n ++ ds
unfolding spelt all
decimal-spelt n [] h e = sym (append-nil (decimal n))
decimal-spelt n (d ∷ ds) h e =
    let (this, rest) = (and-eq-true_iff (is_digit d) (all is_digit ds)).0 e in
    let (least, most) = is_digit_lem d this in
    let m : ℕ = 10 * n + (d - 48) in
    let above : m / 10 ≡ n = omega arith in
    let below : digit (m % 10) ≡ d = digit-small (m % 10) (omega arith) ∙ (let e : 48 + m % 10 ≡ d = omega arith in e) in
    decimal-spelt m ds (omega arith) rest ∙
    ap (λ (l : List ℕ). l ++ ds) (decimal-more m (omega arith) ∙ ap₂ (λ (k c : ℕ). decimal k ++ (c ∷ [])) above below) ∙
    append_assoc (decimal n) (d ∷ []) ds

-- one digit
decimal_digit : (d : ℕ) → is_digit d ≡ true → decimal (d - 48) ≡ d ∷ []
decimal_digit d e =
    let (least, most) = is_digit_lem d e in
    decimal-last (d - 48) (omega arith) ∙ ap (λ (c : ℕ). c ∷ []) (digit-small (d - 48) (omega arith) ∙ (let e : 48 + (d - 48) ≡ d = omega arith in e))

pub decimal-again : (f : List ℕ) → is_decimal f ≡ true → decimal (number_of f) ≡ f
unfolding is_decimal spelt all
decimal-again [] h = absurd cc
decimal-again (d ∷ []) h = rw zero-add (decimal_digit d h)
decimal-again (d ∷ e ∷ ds) h =
    let (first, digits) = (and-eq-true_iff (ltb 48 d) (all is_digit (d ∷ e ∷ ds))).0 h in
    let (this, rest) = (and-eq-true_iff (is_digit d) (all is_digit (e ∷ ds))).0 digits in
    rw zero-add
    (decimal-spelt (d - 48) (e ∷ ds) (omega (arith, ltb-true 48 d first)) rest ∙ ap (λ (l : List ℕ). l ++ (e ∷ ds)) (decimal_digit d this))

-- ---- numbers of 32 bits

pub number-codec : Codec (λ (n : ℕ). n < 2 ^ 32) decimal is_number number_of
unfolding is_number
number-codec = record {
  within = λ n h. digits-within (decimal n) (decimal-digits (decimal n) (decimal-read (suc n) n (omega arith)).0);
  one = λ n h. let (is, back) = decimal-read (suc n) n (omega arith) in rw (is, back, lt-ltb n (2 ^ 32) h);
  back = λ n h. (decimal-read (suc n) n (omega arith)).1;
  good = λ f e. ltb-true (number_of f) (2 ^ 32) ((and-eq-true_iff (is_decimal f) (ltb (number_of f) (2 ^ 32))).0 e).1;
  again = λ f w e. decimal-again f ((and-eq-true_iff (is_decimal f) (ltb (number_of f) (2 ^ 32))).0 e).0;
}
