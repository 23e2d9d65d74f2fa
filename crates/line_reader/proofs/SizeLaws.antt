-- The laws of the sizes of fields: of bytes a digit at a time, of a text an escape or a run at a time.
-- Assumes nothing.
use Rattle.std.specs.Prelude.{None, Some}
use Rattle.std.specs.Bool.{then_some}
use Prim.Native.Nat.{ℕ, zero, suc, ◌+◌, ◌/◌, ◌%◌, ◌≤◌, ◌<◌}
use mathlib.Core.Bool.{Bool, true, false, ◌&&◌, and-true}
use mathlib.Core.List.{List, [], ◌∷◌}
use mathlib.Core.Path.{◌≡◌, refl, sym, ◌∙◌}
use native.Mathlib.Nat.{add-zero}
use native.Mathlib.Numerals.{add-one}
use native.Mathlib.Omega.{arith}
use borrow.Author.Tests.{ne_eqb}
use lib.Dec.{eqb}
use lib.ListN.{length, get_or, drop, drop_of_length-le}
use lib.Seq.{drop-cons}
use Rattle.find.specs.Find.{until, is_any}
use Rattle.find.proofs.Rest.{from, from-is}
use Rattle.find.proofs.FindLaws.{any-one, until-found, until-more, until-step, until-least}
use Rattle.sheet.specs.Fields.{backslash, all, is_hex_digit, is_hex_pairs, bytes_of_pairs, is_escape, is_escaped, unescape}
use Rattle.sheet.proofs.Escapes.{plain-is, plain-means, escape-is, escape-means}
use Rattle.line_reader.specs.Sizes.{size_told, bytes_told, text_told}

-- ---- bytes

pub pairs-are : (f : List ℕ) → is_hex_pairs f ≡ (eqb (length f % 2) 0 && all is_hex_digit f)
unfolding is_hex_pairs all
pairs-are [] = refl
pairs-are (a ∷ []) = refl
pairs-are (a ∷ b ∷ f) =
    let two : suc (suc (length f)) % 2 ≡ length f % 2 = omega arith in
    rw (two, pairs-are f) (go (is_hex_digit a) (is_hex_digit b) (eqb (length f % 2) 0))
  where
    go : (x y even : Bool) → (x && y && (even && all is_hex_digit f)) ≡ (even && (x && (y && all is_hex_digit f)))
    go true true even = refl
    go true false true = refl
    go true false false = refl
    go false y true = refl
    go false y false = refl

pub bytes-length : (f : List ℕ) → length (bytes_of_pairs f) ≡ length f / 2
unfolding bytes_of_pairs
bytes-length [] = refl
bytes-length (a ∷ []) = refl
bytes-length (a ∷ b ∷ f) = omega (arith, bytes-length f)

-- one more digit
pub digit-more :
    (good : Bool) (s : List ℕ) (i : ℕ) →
    i < length s →
    (good && all is_hex_digit (drop i s)) ≡ (good && is_hex_digit (get_or s i 0) && all is_hex_digit (drop (i + 1) s))
unfolding all
digit-more true s i h = rw (add-one, drop-cons s i 0 h)
digit-more false s i h = refl

-- where all are tested
pub bytes-sized :
    (good : Bool) (f : List ℕ) (i : ℕ) →
    length f ≤ i →
    (good && all is_hex_digit (drop i f)) ≡ is_hex_pairs f →
    then_some good (length f / 2) ≡ bytes_told f
unfolding all
bytes-sized good f i h e =
    let is : is_hex_pairs f ≡ good = sym e ∙ rw (drop_of_length-le f h, and-true) in
    rw (is, bytes-length f) (go good)
  where
    go : (good : Bool) → then_some good (length f / 2) ≡ size_told good (length f / 2)
    go true = refl
    go false = refl

-- ---- a text

abbrev slash : ℕ → Bool
slash = is_any (backslash ∷ [])

-- bytes before the first backslash stand for themselves
text-run : (n m : ℕ) (s : List ℕ) → m ≤ until slash s → text_told n s ≡ text_told (n + m) (drop m s)
text-run n zero s h = rw add-zero
text-run n (suc m) [] h = absurd (unfold until in omega arith)
text-run n (suc m) (b ∷ s) h = go (eqb b backslash) refl (text-run (n + 1) m s)
  where
    go :
        (is : Bool) →
        eqb b backslash ≡ is →
        (m ≤ until slash s → text_told (n + 1) s ≡ text_told (n + 1 + m) (drop m s)) →
        text_told n (b ∷ s) ≡ text_told (n + suc m) (drop m s)
    go true e more = absurd (omega (arith, until-found slash b s (any-one 92 b ∙ e)))
    go false e more =
        let one : n + suc (length (unescape s)) ≡ n + 1 + length (unescape s) = omega arith in
        let all : n + 1 + m ≡ n + suc m = omega arith in
        rw (plain-is b s e, plain-means b s e, one, ← all) (more (omega (arith, until-more slash b s (any-one 92 b ∙ e))))

-- a run whose first byte stands for itself, up to the next backslash
pub text-plain :
    (n : ℕ) (s : List ℕ) →
    1 ≤ length s →
    (get_or s 0 0 ≡ backslash → ⊥) →
    (1 ≤ until slash s) × (until slash s ≤ length s) × (text_told n s ≡ text_told (n + until slash s) (from (until slash s) s))
text-plain n s h plain =
    let none : slash (get_or s 0 0) ≡ false = any-one 92 (get_or s 0 0) ∙ ne_eqb (get_or s 0 0) backslash plain in
    (omega (arith, until-step slash s 0 h none), until-least slash s, rw from-is (text-run n (until slash s) s (omega arith)))

pub text-done : (n : ℕ) (s : List ℕ) → length s < 1 → text_told n s ≡ Some n
unfolding is_escaped unescape
text-done n [] h = rw add-zero
text-done n (b ∷ s) h = absurd (omega arith)

-- a backslash and what follows it
pub text-escape :
    (n : ℕ) (s : List ℕ) →
    1 ≤ length s →
    get_or s 0 0 ≡ backslash →
    is_escape (get_or (from 1 s) 0 0) ≡ true →
    (2 ≤ length s) × (text_told n s ≡ text_told (n + 1) (from 1 (from 1 s)))
text-escape n [] h is e = absurd (omega arith)
text-escape n (a ∷ []) h is e = absurd cc
text-escape n (a ∷ b ∷ s) h is e =
    let own : is_escape b ≡ true = rw from-is at e in
    let one : n + suc (length (unescape s)) ≡ n + 1 + length (unescape s) = omega arith in
    (omega arith, rw (from-is, from-is, is, escape-is, escape-means, own, one))

pub text-bad : (n : ℕ) (s : List ℕ) → 1 ≤ length s → get_or s 0 0 ≡ backslash → is_escape (get_or (from 1 s) 0 0) ≡ false → text_told n s ≡ None
unfolding is_escaped
text-bad n [] h is e = absurd (omega arith)
text-bad n (a ∷ []) h is e = rw is
text-bad n (a ∷ b ∷ s) h is e =
    let own : is_escape b ≡ false = rw from-is at e in
    rw (is, escape-is, own)
