-- What a field says, from a place on: a byte for each pair of digits; a byte for each escape, and runs of bytes that stand for themselves.
-- Assumes nothing.
use Prim.Native.Nat.{ℕ, zero, suc, ◌+◌, ◌*◌, ◌≤◌, ◌<◌}
use mathlib.Core.Bool.{Bool, true, false, ◌&&◌, and-eq-true_iff}
use mathlib.Core.List.{List, [], ◌∷◌, ◌++◌}
use mathlib.Core.Path.{◌≡◌, refl, ap, ◌∙◌}
use native.Mathlib.Numerals.{add-one}
use native.Mathlib.Omega.{arith}
use borrow.Author.Tests.{eqb-true, ltb-true, ltb-false}
use lib.Dec.{eqb, ltb}
use lib.ListN.{length, get_or, take, drop}
use lib.Seq.{drop-cons, length-take-le}
use Rattle.find.specs.Find.{until, is_any}
use Rattle.find.proofs.Rest.{from, from-is}
use Rattle.find.proofs.FindLaws.{any-one, until-found, until-more, until-least}
use Rattle.sheet.specs.Fields.{backslash, is_hex_digit, hex_value, is_hex_pairs, bytes_of_pairs, meant, unescape}
use Rattle.sheet.proofs.Escapes.{plain-means, escape-means}
use Rattle.sheet.proofs.HexPairs.{bytes-codec}
use Rattle.line_reader.proofs.SizeLaws.{bytes-length}
use Rattle.wire.proofs.Sets.{sets-past, sets-part}
use Rattle.from_sheet.specs.Escape.{is_pair}

-- ---- bytes

-- the pair of a byte
pub record Pair (f : List ℕ) (i : ℕ) : Type 0 where
  pub inside : 2 * i + 1 < length f
  pub first : is_hex_digit (get_or f (2 * i) 0) ≡ true
  pub second : is_hex_digit (get_or f (2 * i + 1) 0) ≡ true
  pub is : get_or (bytes_of_pairs f) i 0 ≡ 16 * hex_value (get_or f (2 * i) 0) + hex_value (get_or f (2 * i + 1) 0)
  pub small : get_or (bytes_of_pairs f) i 0 < 256

pub pair : (f : List ℕ) (i : ℕ) → i < length (bytes_of_pairs f) → is_hex_pairs f ≡ true → Pair f i
unfolding is_hex_pairs bytes_of_pairs
pair [] i h e = absurd (omega arith)
pair (a ∷ []) i h e = absurd (omega arith)
pair (a ∷ b ∷ s) zero h e =
    let (x, y) = (and-eq-true_iff (is_hex_digit a) (is_hex_digit b)).0 ((and-eq-true_iff (is_hex_digit a && is_hex_digit b) (is_hex_pairs s)).0 e).0 in
    record { inside = omega arith; first = x; second = y; is = refl; small = bytes-codec.good (a ∷ b ∷ s) e 0 }
pair (a ∷ b ∷ s) (suc i) h e =
    let p = pair s i (omega arith) ((and-eq-true_iff (is_hex_digit a && is_hex_digit b) (is_hex_pairs s)).0 e).1 in
    let next : 2 * suc i ≡ suc (suc (2 * i)) = omega arith in
    let after : suc (suc (2 * i)) + 1 ≡ suc (suc (2 * i + 1)) = omega arith in
    record { inside = omega (arith, p.inside); first = rw next p.first; second = rw (next, after) p.second; is = rw (next, after) p.is; small = p.small }

-- what stores as many as fit
pub ruleset bytes_stored = (bytes-length, sets-past, sets-part)

-- ---- escapes

two-next : (f : List ℕ) (at : ℕ) → at + 1 < length f → drop at f ≡ get_or f at 0 ∷ get_or f (at + 1) 0 ∷ drop (at + 2) f
two-next f at h =
    let past : at + 2 ≡ suc (suc at) = omega arith in
    rw (add-one, past, drop-cons f at 0 (omega arith), drop-cons f (suc at) 0 (omega arith))

pub unescape-pair : (s : List ℕ) → is_pair s ≡ true → (1 < length s) × (unescape s ≡ meant (get_or s 1 0) ∷ unescape (from 2 s))
unescape-pair s e =
    let (slash, more) = (and-eq-true_iff (eqb (get_or s 0 0) backslash) (ltb 1 (length s))).0 e in
    let inside = ltb-true 1 (length s) more in
    (inside, ap unescape (two-next s 0 inside) ∙ rw (eqb-true (get_or s 0 0) backslash slash, from-is) (escape-means _ _))

-- a byte that stands for itself
unescape-plain : (b : ℕ) (s : List ℕ) → is_pair (b ∷ s) ≡ false → unescape (b ∷ s) ≡ b ∷ unescape s
unescape-plain b [] e = unfold unescape in refl
unescape-plain b (c ∷ s) e = go (eqb b backslash) refl e
  where
    go : (x : Bool) → eqb b backslash ≡ x → (x && ltb 1 (length (b ∷ c ∷ s))) ≡ false → unescape (b ∷ c ∷ s) ≡ b ∷ unescape (c ∷ s)
    go true p h = absurd (omega (arith, ltb-false 1 (length (b ∷ c ∷ s)) h))
    go false p h = plain-means b (c ∷ s) p

abbrev slash : ℕ → Bool
slash = is_any (backslash ∷ [])

-- bytes up to a backslash stand for themselves
unescape-run : (s : List ℕ) → unescape s ≡ take (until slash s) s ++ unescape (drop (until slash s) s)
unescape-run [] = unfold until unescape in refl
unescape-run (b ∷ s) = go (eqb b backslash) refl (unescape-run s)
  where
    go :
        (is : Bool) →
        eqb b backslash ≡ is →
        unescape s ≡ take (until slash s) s ++ unescape (drop (until slash s) s) →
        unescape (b ∷ s) ≡ take (until slash (b ∷ s)) (b ∷ s) ++ unescape (drop (until slash (b ∷ s)) (b ∷ s))
    go true e h = rw (until-found slash b s (any-one backslash b ∙ e))
    go false e h = rw (until-more slash b s (any-one backslash b ∙ e)) (plain-means b s e ∙ ap (λ (l : List ℕ). b ∷ l) h)

-- what is known of a run whose first byte stands for itself, where the search went over what follows it as a slice
pub record Run (s : List ℕ) (n : ℕ) : Type 0 where
  pub within : n ≤ length s
  pub long : length (take n s) ≡ n
  pub is : unescape s ≡ take n s ++ unescape (from n s)

pub run-found : (s : List ℕ) (m : ℕ) → 0 < length s → is_pair s ≡ false → m ≡ until slash (from 1 s) → Run s (1 + m)
run-found [] m h e is = absurd (omega arith)
run-found (b ∷ s) m h e is =
    let here : m ≡ until slash s = is ∙ ap (until slash) (from-is 1 (b ∷ s)) in
    let most : m ≤ length s = rw here (until-least slash s) in
    let one : 1 + m ≡ suc m = omega arith in
    let ran : unescape s ≡ take m s ++ unescape (drop m s) = rw here (unescape-run s) in
    record {
      within = omega arith;
      long = length-take-le (1 + m) (b ∷ s) (omega arith);
      is = rw (from-is, one) (unescape-plain b s e ∙ ap (λ (l : List ℕ). b ∷ l) ran);
    }

pub unescape-end : (s : List ℕ) → length s < 1 → unescape s ≡ []
unescape-end [] h = unfold unescape in refl
unescape-end (b ∷ s) h = absurd (omega arith)
