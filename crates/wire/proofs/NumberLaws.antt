-- The laws of little-endian numbers: over the width, and from them the bytes of the two widths that the code has.
-- Assumes nothing.
use mathlib.Core.Path.{◌≡◌, refl, ap, ◌∙◌}
use mathlib.Core.List.{List, [], ◌∷◌, ◌++◌}
use Prim.Native.Nat.{ℕ, zero, suc, ◌+◌, ◌*◌, ◌/◌, ◌%◌, ◌^◌, ◌≤◌, ◌<◌}
use native.Mathlib.Nat.{zero-add, suc-add, mul-zero, one-mul, pow-suc, pow-succ', mul_assoc, add_assoc, add-zero, le_of_suc-le-suc, not-suc-le-zero, mod-add-div, div-lt_iff_lt-mul, div-div-eq-div-mul, one-le-pow, mod-lt, div-one}
use native.Mathlib.Omega.{arith}
use native.Mathlib.Numerals.{add-one}
use lib.Arith.{digits_div, digits_mod, mod-mul}
use lib.Dec.{lit<}
use lib.ListN.{length, get_or, take, drop, drop_of_length-le}
use lib.Seq.{sets, drop-drop}
use Rattle.wire.specs.Number.{byte_at, little_endian, u16_at, u32_at, bytes_of}
use Rattle.wire.proofs.Sets.{sets-append, sets-joined}

-- ---- reading

-- no bytes spell 0
pub little_endian-none : (w : ℕ) → little_endian w [] ≡ 0
unfolding little_endian
little_endian-none zero = refl
little_endian-none (suc w) = refl

-- one byte more, wherever the number stands, past the end too
pub little_endian-suc : (w : ℕ) (p : List ℕ) (at : ℕ) → little_endian (suc w) (drop at p) ≡ byte_at p at + 256 * little_endian w (drop (suc at) p)
unfolding little_endian
little_endian-suc w [] zero = omega (arith, little_endian-none w)
little_endian-suc w [] (suc at) = omega (arith, little_endian-none w)
little_endian-suc w (b ∷ p) zero = refl
little_endian-suc w (b ∷ p) (suc at) = little_endian-suc w p at

-- a number is its low bytes, and then its high ones
pub little_endian-add : (v w : ℕ) (s : List ℕ) → little_endian (v + w) s ≡ little_endian v s + 256 ^ v * little_endian w (drop v s)
unfolding little_endian
little_endian-add zero w s = rw (zero-add, zero-add, one-mul)
little_endian-add (suc v) w [] = simp (little_endian-none, mul-zero)
little_endian-add (suc v) w (b ∷ s) =
    rw (suc-add, pow-succ', mul_assoc, little_endian-add v w s) (omega arith)

-- at or past the end a number is 0
pub little_endian-past : (w : ℕ) (p : List ℕ) (at : ℕ) → length p ≤ at → little_endian w (drop at p) ≡ 0
little_endian-past w p at h = rw (drop_of_length-le p h) (little_endian-none w)

-- the numbers of two bytes and of four, byte by byte
pub u16-bytes : (p : List ℕ) (at : ℕ) → u16_at p at ≡ byte_at p (at + 0) + 256 * byte_at p (at + 1)
unfolding little_endian
u16-bytes p at = rw (add-zero, add-one) (omega (arith, little_endian-suc 1 p at, little_endian-suc 0 p (suc at)))

pub u32-bytes : (p : List ℕ) (at : ℕ) → u32_at p at ≡ byte_at p (at + 0) + 256 * byte_at p (at + 1) + 65536 * byte_at p (at + 2) + 16777216 * byte_at p (at + 3)
unfolding little_endian
u32-bytes p at =
    let upper : little_endian 2 (drop (at + 2) p) ≡ byte_at p (at + 2) + 256 * byte_at p (at + 3) = rw (add-zero, add_assoc) at (u16-bytes p (at + 2)) in
    omega (arith, u16-bytes p at, upper, rw drop-drop at (little_endian-add 2 2 (drop at p)))

pub ruleset number_bytes = (u16-bytes, u32-bytes)

-- bytes after the width do not count
pub little_endian-prefix : (w : ℕ) (s t : List ℕ) → w ≤ length s → little_endian w (s ++ t) ≡ little_endian w s
unfolding little_endian
little_endian-prefix zero s t h = refl
little_endian-prefix (suc w) [] t h = absurd (not-suc-le-zero h)
little_endian-prefix (suc w) (b ∷ s) t h = ap (λ (n : ℕ). b + 256 * n) (little_endian-prefix w s t (le_of_suc-le-suc h))

-- a number of a width is below 256 to the width
pub little_endian-below : (w : ℕ) (s : List ℕ) → ((k : ℕ) → get_or s k 0 < 256) → little_endian w s < 256 ^ w
unfolding little_endian
little_endian-below zero s h = lit< tt
little_endian-below (suc w) [] h = one-le-pow (suc w) 256 (lit< tt)
little_endian-below (suc w) (b ∷ s) h =
    rw pow-succ' (omega (arith, h 0, little_endian-below w s (λ k. h (suc k))))

-- ---- writing

pub length-bytes_of : (w n : ℕ) → length (bytes_of w n) ≡ w
unfolding bytes_of
length-bytes_of zero n = refl
length-bytes_of (suc w) n = ap suc (length-bytes_of w (n / 256))

-- each of a number's bytes is below 256
pub bytes_of-below : (w n k : ℕ) → get_or (bytes_of w n) k 0 < 256
unfolding bytes_of
bytes_of-below zero n k = lit< tt
bytes_of-below (suc w) n zero = mod-lt n (lit< tt)
bytes_of-below (suc w) n (suc k) = bytes_of-below w (n / 256) k

-- a number's bytes are its low bytes, and then its high ones
pub bytes_of-add : (v w n : ℕ) → bytes_of (v + w) n ≡ bytes_of v n ++ bytes_of w (n / 256 ^ v)
unfolding bytes_of
bytes_of-add zero w n = rw (zero-add, div-one)
bytes_of-add (suc v) w n = rw (suc-add, pow-succ', ← div-div-eq-div-mul) (ap (λ (s : List ℕ). n % 256 ∷ s) (bytes_of-add v w (n / 256)))

-- what does not fit the width does not count
pub bytes_of-low : (w n : ℕ) → bytes_of w (n % 256 ^ w) ≡ bytes_of w n
unfolding bytes_of
bytes_of-low zero n = refl
bytes_of-low (suc w) n =
    let e : n % 256 ^ suc w ≡ n / 256 % 256 ^ w * 256 + n % 256 = rw pow-suc (mod-mul n (one-le-pow w 256 (lit< tt)) (lit< tt)) in
    let r : n % 256 < 256 = mod-lt n (lit< tt) in
    rw (e, digits_mod, digits_div) (ap (λ (s : List ℕ). n % 256 ∷ s) (bytes_of-low w (n / 256)))

-- to store a number's bytes is to store the low ones, and then the high ones
pub sets-bytes_of-add : (v w n : ℕ) (l : List ℕ) (i : ℕ) → sets l i (bytes_of (v + w) n) ≡ sets (sets l i (bytes_of v (n % 256 ^ v))) (i + v) (bytes_of w (n / 256 ^ v))
sets-bytes_of-add v w n l i =
    rw (bytes_of-low, bytes_of-add, sets-append (bytes_of v n) (bytes_of w (n / 256 ^ v)) l i, length-bytes_of)

-- ---- both ways

-- a number that fits its width reads back from its bytes
pub read_back : (w n : ℕ) (s : List ℕ) → n < 256 ^ w → little_endian w (bytes_of w n ++ s) ≡ n
unfolding little_endian bytes_of
read_back zero n s h = omega arith
read_back (suc w) n s h =
    rw (read_back w (n / 256) s ((div-lt_iff_lt-mul (lit< tt)).1 (rw pow-suc at h))) (mod-add-div n 256)

-- bytes are written back from the number that they spell
pub write-back : (w : ℕ) (s : List ℕ) → ((k : ℕ) → get_or s k 0 < 256) → w ≤ length s → bytes_of w (little_endian w s) ≡ take w s
unfolding little_endian bytes_of
write-back zero s h l = refl
write-back (suc w) [] h l = absurd (not-suc-le-zero l)
write-back (suc w) (b ∷ s) h l =
    let b' : b < 256 = h 0 in
    let m : (b + 256 * little_endian w s) % 256 ≡ b = omega arith in
    let d : (b + 256 * little_endian w s) / 256 ≡ little_endian w s = omega arith in
    rw (m, d) (ap (λ (t : List ℕ). b ∷ t) (write-back w s (λ k. h (suc k)) (le_of_suc-le-suc l)))

-- ---- stored one after the other

-- a number of so many bytes, and a run where it ends
pub number-stored :
    (width n : ℕ) (ws l : List ℕ) (i j : ℕ) → j ≡ i + width → sets (sets l i (bytes_of width n)) j ws ≡ sets l i (bytes_of width n ++ ws)
number-stored width n ws l i j e = sets-joined (bytes_of width n) ws l i j (omega (arith, length-bytes_of width n))

-- a number of four bytes, one of so many where it ends, and a run after both
pub fields-stored :
    (first width second : ℕ) (third l : List ℕ) (i j k : ℕ) →
    j ≡ i + 4 →
    k ≡ j + width →
    sets (sets (sets l i (bytes_of 4 first)) j (bytes_of width second)) k third ≡ sets l i (bytes_of 4 first ++ (bytes_of width second ++ third))
fields-stored first width second third l i j k e f =
    number-stored width second third (sets l i (bytes_of 4 first)) j k f ∙ number-stored 4 first _ l i j e
