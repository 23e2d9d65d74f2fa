-- The alternatives of UTF8-char: that the class of a byte says which of them a character that begins with the byte has to
-- be, since their first ranges ascend and so share no byte; and that a character is no longer than the bytes that hold it.
-- Assumes nothing.
use mathlib.Core.Path.{◌≡◌, refl, sym, ◌∙◌, ap, subst}
use mathlib.Core.Bool.{Bool, true, false, ◌&&◌}
use mathlib.Core.List.{List, [], ◌∷◌}
use Prim.Native.Nat.{ℕ, zero, suc, ◌+◌, ◌≤◌, ◌<◌, zero-le, suc-le-suc}
use native.Mathlib.Nat.{le_of_suc-le-suc, not-suc-le-zero}
use native.Mathlib.Omega.{arith}
use lib.Dec.{T, leb, ltb, ltb→lt}
use lib.ListN.{length, get_or, drop}
use lib.Seq.{drop-cons}
use native.Mathlib.Numerals.{add-one}
use Rattle.std.specs.List.{between}
use Rattle.std.proofs.lemmas.Slice.{between_to_end}
use borrow.Author.Tests.{leb-true, lt-leb}
use Rattle.utf8.specs.Rfc3629.{Range, within, begins, first_length, alternatives, char_length}
use Rattle.utf8.specs.Classes.{place_in, class_of, length_after}
use Rattle.utf8.proofs.Table.{and_left, and_right}

-- the length of the character whose first byte can begin the alternative at place n
unfoldable pub length_at : ℕ → List (List Range) → List ℕ → ℕ
length_at n [] s = 0
length_at zero (rs ∷ rest) s = length_after (drop 1 rs) s
length_at (suc n) (rs ∷ rest) s = length_at n rest s

-- the first range of each alternative lies above the number
abbrev above : ℕ → List (List Range) → Bool
above m [] = true
above m ([] ∷ rest) = false
above m ((r ∷ rs) ∷ rest) = ltb m r.low && above m rest

abbrev ascending : List (List Range) → Bool
ascending [] = true
ascending ([] ∷ rest) = false
ascending ((r ∷ rs) ∷ rest) = above r.high rest && ascending rest

not_within : (r : Range) (b : ℕ) → b < r.low → within r b ≡ false
not_within r b h = ap (λ (t : Bool). t && leb b r.high) (lt-leb r.low b h)

pub within-high : (r : Range) (b : ℕ) → within r b ≡ true → b ≤ r.high
within-high r b = go (leb r.low b)
  where
    go : (t : Bool) → (t && leb b r.high) ≡ true → b ≤ r.high
    go true e = leb-true b r.high e
    go false e = absurd (subst T (sym e) tt)

-- what first_length picks at an alternative
abbrev pick : Bool → ℕ → ℕ → ℕ
pick t m n = elim t [ true ↦ m | false ↦ n ]

none_above : (alts : List (List Range)) (m b : ℕ) (s : List ℕ) → b ≤ m → T (above m alts) → first_length alts (b ∷ s) ≡ 0
unfolding first_length begins
none_above [] m b s h t = refl
none_above ([] ∷ rest) m b s h t = absurd t
none_above ((r ∷ rs) ∷ rest) m b s h t =
    let low : b < r.low = omega (arith, ltb→lt m r.low (and_left (ltb m r.low) (above m rest) t)) in
    ap (λ (w : Bool). pick (w && begins rs s) (suc (length rs)) (first_length rest (b ∷ s))) (not_within r b low) ∙
    none_above rest m b s h (and_right (ltb m r.low) (above m rest) t)

place-length : (alts : List (List Range)) → T (ascending alts) → (b : ℕ) (s : List ℕ) → first_length alts (b ∷ s) ≡ length_at (place_in alts b) alts s
unfolding first_length begins length_at place_in length_after
place-length [] t b s = refl
place-length ([] ∷ rest) t b s = absurd t
place-length ((r ∷ rs) ∷ rest) t b s = go (within r b) refl (place-length rest (and_right (above r.high rest) (ascending rest) t) b s)
  where
    later : b ≤ r.high → first_length rest (b ∷ s) ≡ 0
    later h = none_above rest r.high b s h (and_left (above r.high rest) (ascending rest) t)

    go : (w : Bool) → within r b ≡ w → first_length rest (b ∷ s) ≡ length_at (place_in rest b) rest s → pick (w && begins rs s) (suc (length rs)) (first_length rest (b ∷ s)) ≡ length_at (pick w 0 (suc (place_in rest b))) ((r ∷ rs) ∷ rest) s
    go true e ih = ap (λ (n : ℕ). pick (begins rs s) (suc (length rs)) n) (later (within-high r b e))
    go false e ih = ih

-- the class of the first byte says which ranges the other bytes of a character have
pub class-length : (b : ℕ) (s : List ℕ) → char_length (b ∷ s) ≡ length_at (class_of b) alternatives s
unfolding char_length class_of
class-length b s = place-length alternatives tt b s

-- the same at a place of a text, where the class was found to be n
pub at-class : (s : List ℕ) (i n k : ℕ) → i < length s → k ≡ class_of (get_or s i 0) → k ≡ n → length_at n alternatives (between (i + 1) (length s) s) ≡ char_length (drop i s)
at-class s i n k h e f =
    ap (length_at n alternatives) (between_to_end s (i + 1) (length s) (omega arith)) ∙
    ap (λ (m : ℕ). length_at m alternatives (drop (i + 1) s)) (sym f ∙ e) ∙
    sym (class-length (get_or s i 0) (drop (i + 1) s)) ∙
    ap (λ (m : ℕ). char_length (get_or s i 0 ∷ drop m s)) (add-one i) ∙
    ap char_length (sym (drop-cons s i 0 h))

pub length-past : (n : ℕ) (alts : List (List Range)) (s : List ℕ) → length alts ≤ n → length_at n alts s ≡ 0
unfolding length_at
length-past n [] s h = refl
length-past zero (rs ∷ rest) s h = absurd (not-suc-le-zero h)
length-past (suc n) (rs ∷ rest) s h = length-past n rest s (le_of_suc-le-suc h)

begins-length : (rs : List Range) (s : List ℕ) → T (begins rs s) → length rs ≤ length s
unfolding begins
begins-length [] s t = zero-le
begins-length (r ∷ rs) [] t = absurd t
begins-length (r ∷ rs) (b ∷ s) t = suc-le-suc (begins-length rs s (and_right (within r b) (begins rs s) t))

first-length : (alts : List (List Range)) (s : List ℕ) → first_length alts s ≤ length s
unfolding first_length
first-length [] s = zero-le
first-length (rs ∷ rest) s = go (begins rs s) (begins-length rs s) (first-length rest s)
  where
    go : (t : Bool) → (T t → length rs ≤ length s) → first_length rest s ≤ length s → pick t (length rs) (first_length rest s) ≤ length s
    go true h ih = h tt
    go false h ih = ih

-- a character is no longer than the bytes
pub char-length : (s : List ℕ) → char_length s ≤ length s
unfolding char_length
char-length s = first-length alternatives s

pub after-hit : (rs : List Range) (s : List ℕ) → begins rs s ≡ true → suc (length rs) ≡ length_after rs s
unfolding length_after
after-hit rs s e = ap (λ (t : Bool). pick t (suc (length rs)) 0) (sym e)

pub after-miss : (rs : List Range) (s : List ℕ) → begins rs s ≡ false → 0 ≡ length_after rs s
unfolding length_after
after-miss rs s e = ap (λ (t : Bool). pick t (suc (length rs)) 0) (sym e)
