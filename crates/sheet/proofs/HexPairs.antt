-- Bytes: their hex pairs are read as them, and pairs of digits are the hex pairs of what they are read as.
-- Assumes nothing.
use Prim.Native.Nat.{ℕ, zero, suc, ◌+◌, ◌-◌, ◌*◌, ◌/◌, ◌%◌, ◌<◌}
use mathlib.Core.Bool.{Bool, true, false, cond, ◌&&◌, ◌||◌, and-eq-true_iff}
use mathlib.Core.List.{List, [], ◌∷◌, flat_map}
use mathlib.Core.Path.{◌≡◌, refl, ap, ap₂, ◌∙◌}
use native.Mathlib.Omega.{arith}
use borrow.Author.Tests.{leb-true, leb-false, le-leb, lt-leb, ltb-true, ltb-false, lt-ltb, le-ltb, ne_eqb}
use lib.Dec.{leb, ltb}
use Rattle.format.specs.WellFormed.{Bytes}
use Rattle.sheet.specs.Fields.{tab, newline, is_digit, hex_digit, hex_pairs, is_hex_digit, is_hex_pairs, hex_value, bytes_of_pairs}
use Rattle.sheet.proofs.Codec.{Within, Codec}

-- ---- a digit

-- the number of a number's digit
digit_value : (n : ℕ) → n < 16 → (is_hex_digit (hex_digit n) ≡ true) × (hex_value (hex_digit n) ≡ n) × Within (hex_digit n ∷ [])
digit_value n h = go (ltb n 10) refl
  where
    go :
        (low : Bool) →
        ltb n 10 ≡ low →
        (let d : ℕ = cond low (48 + n) (87 + n) in
        (is_hex_digit d ≡ true) × (hex_value d ≡ n) × Within (d ∷ []))
    go true e =
        let small = ltb-true n 10 e in
        let here = le-leb (48 + n) 57 (omega arith) in (
          rw (le-leb 48 (48 + n) (omega arith), here),
          rw here (omega arith),
          ((ne_eqb (48 + n) tab (λ q. omega arith), tt), (ne_eqb (48 + n) newline (λ q. omega arith), tt)),
        )
    go false e =
        let large = ltb-false n 10 e in
        let past = lt-leb (87 + n) 57 (omega arith) in (
          rw (le-leb 48 (87 + n) (omega arith), past, le-leb 97 (87 + n) (omega arith), le-leb (87 + n) 102 (omega arith)),
          rw past (omega arith),
          ((ne_eqb (87 + n) tab (λ q. omega arith), tt), (ne_eqb (87 + n) newline (λ q. omega arith), tt)),
        )

-- the digit of a digit's number
value-digit : (b : ℕ) → is_hex_digit b ≡ true → (hex_value b < 16) × (hex_digit (hex_value b) ≡ b)
value-digit b e = go (leb b 57) refl (is_digit b) refl e
  where
    go :
        (low : Bool) →
        leb b 57 ≡ low →
        (is : Bool) →
        is_digit b ≡ is →
        (is || (leb 97 b && leb b 102)) ≡ true →
        (let n : ℕ = cond low (b - 48) (b - 87) in
        (n < 16) × (hex_digit n ≡ b))
    go true q true d h =
        let (least, most) = (and-eq-true_iff (leb 48 b) (leb b 57)).0 d in
        let low = leb-true 48 b least in
        let high = leb-true b 57 most in
        (omega arith, rw (lt-ltb (b - 48) 10 (omega arith)) (omega arith))
    go true q false d h =
        let (least, most) = (and-eq-true_iff (leb 97 b) (leb b 102)).0 h in
        absurd (omega (arith, leb-true 97 b least, leb-true b 57 q))
    go false q true d h =
        let (least, most) = (and-eq-true_iff (leb 48 b) (leb b 57)).0 d in
        absurd (omega (arith, leb-true b 57 most, leb-false b 57 q))
    go false q false d h =
        let (least, most) = (and-eq-true_iff (leb 97 b) (leb b 102)).0 h in
        let low = leb-true 97 b least in
        let high = leb-true b 102 most in
        (omega arith, rw (le-ltb (b - 87) 10 (omega arith)) (omega arith))

-- ---- bytes

rest-bytes : (b : ℕ) (s : List ℕ) → Bytes (b ∷ s) → (b < 256) × Bytes s
rest-bytes b s h = (h 0, λ k. h (suc k))

more_bytes : (b : ℕ) (s : List ℕ) → b < 256 → Bytes s → Bytes (b ∷ s)
more_bytes b s h hs zero = h
more_bytes b s h hs (suc k) = hs k

-- the two digits of a byte
high : (b : ℕ) → b < 256 → b / 16 < 16
high b h = omega arith

pair-back : (b : ℕ) → b < 256 → 16 * hex_value (hex_digit (b / 16)) + hex_value (hex_digit (b % 16)) ≡ b
pair-back b h = rw ((digit_value (b / 16) (omega arith)).1, (digit_value (b % 16) (omega arith)).1) (omega arith)

pairs-one : (bytes : List ℕ) → Bytes bytes → is_hex_pairs (hex_pairs bytes) ≡ true
unfolding hex_pairs is_hex_pairs flat_map
pairs-one [] h = refl
pairs-one (b ∷ bytes) h =
    let (here, rest) = rest-bytes b bytes h in
    rw ((digit_value (b / 16) (omega arith)).0, (digit_value (b % 16) (omega arith)).0, pairs-one bytes rest)

pairs-back : (bytes : List ℕ) → Bytes bytes → bytes_of_pairs (hex_pairs bytes) ≡ bytes
unfolding hex_pairs bytes_of_pairs flat_map
pairs-back [] h = refl
pairs-back (b ∷ bytes) h =
    let (here, rest) = rest-bytes b bytes h in
    ap₂ (λ (x : ℕ) (l : List ℕ). x ∷ l) (pair-back b here) (pairs-back bytes rest)

pairs-within : (bytes : List ℕ) → Bytes bytes → Within (hex_pairs bytes)
unfolding hex_pairs flat_map
pairs-within [] h = (tt, tt)
pairs-within (b ∷ bytes) h =
    let (here, rest) = rest-bytes b bytes h in
    let (t, n) = (digit_value (b / 16) (omega arith)).2 in
    let (u, m) = (digit_value (b % 16) (omega arith)).2 in
    let (v, k) = pairs-within bytes rest in
    ((t.0, (u.0, v)), (n.0, (m.0, k)))

-- ---- pairs

pairs-good : (f : List ℕ) → is_hex_pairs f ≡ true → Bytes (bytes_of_pairs f)
unfolding is_hex_pairs bytes_of_pairs
pairs-good [] e = λ k. omega arith
pairs-good (a ∷ []) e = λ k. omega arith
pairs-good (a ∷ b ∷ f) e =
    let (two, rest) = (and-eq-true_iff (is_hex_digit a && is_hex_digit b) (is_hex_pairs f)).0 e in
    let (x, y) = (and-eq-true_iff (is_hex_digit a) (is_hex_digit b)).0 two in
    let p = (value-digit a x).0 in
    let q = (value-digit b y).0 in
    more_bytes (16 * hex_value a + hex_value b) (bytes_of_pairs f) (omega arith) (pairs-good f rest)

pairs-again : (f : List ℕ) → is_hex_pairs f ≡ true → hex_pairs (bytes_of_pairs f) ≡ f
unfolding hex_pairs is_hex_pairs bytes_of_pairs flat_map
pairs-again [] e = refl
pairs-again (a ∷ []) e = absurd cc
pairs-again (a ∷ b ∷ f) e =
    let (two, rest) = (and-eq-true_iff (is_hex_digit a && is_hex_digit b) (is_hex_pairs f)).0 e in
    let (x, y) = (and-eq-true_iff (is_hex_digit a) (is_hex_digit b)).0 two in
    let (p, first) = value-digit a x in
    let (q, second) = value-digit b y in
    let n : ℕ = 16 * hex_value a + hex_value b in
    let upper : n / 16 ≡ hex_value a = omega arith in
    let lower : n % 16 ≡ hex_value b = omega arith in
    ap₂ (λ (d : ℕ) (l : List ℕ). d ∷ l) (ap hex_digit upper ∙ first) (ap₂ (λ (d : ℕ) (l : List ℕ). d ∷ l) (ap hex_digit lower ∙ second) (pairs-again f rest))

pub bytes-codec : Codec Bytes hex_pairs is_hex_pairs bytes_of_pairs
bytes-codec = record { within = pairs-within; one = pairs-one; back = pairs-back; good = pairs-good; again = λ f w e. pairs-again f e }
