-- Well-formed text is bytes: every range of the grammar ends below 256.
-- Assumes nothing.
use Rattle.utf8.specs.declared.Utf8Error.{Utf8Error}
use Rattle.std.specs.Prelude.{Err, Result, Ok}
use mathlib.Core.Path.{◌≡◌, refl}
use mathlib.Core.Bool.{Bool, true, false, ◌&&◌, and-eq-true_iff}
use mathlib.Core.List.{List, [], ◌∷◌}
use Prim.Native.Nat.{ℕ, zero, suc, ◌+◌, ◌<◌}
use native.Mathlib.Omega.{arith}
use lib.Dec.{ltb}
use lib.ListN.{length, get_or}
use borrow.Author.Tests.{ltb-true}
use Rattle.utf8.specs.Rfc3629.{Range, alternatives, within, begins, first_length, char_length, octets_from, utf8_of, well_formed, ill_formed}
use Rattle.utf8.proofs.Alternatives.{within-high}
use Rattle.utf8.proofs.Laws.{not-well-formed}

abbrev low : List Range → Bool
low [] = true
low (r ∷ rs) = ltb r.high 256 && low rs

abbrev all_low : List (List Range) → Bool
all_low [] = true
all_low (rs ∷ rest) = low rs && all_low rest

-- bytes that begin with ranges that end below 256
begins-low : (rs : List Range) → low rs ≡ true → (s : List ℕ) → begins rs s ≡ true → (k : ℕ) → k < length rs → get_or s k 0 < 256
unfolding begins
begins-low [] l s e k h = absurd (omega arith)
begins-low (r ∷ rs) l [] e k h = absurd cc
begins-low (r ∷ rs) l (b ∷ s) e zero h =
    let (first, rest) = (and-eq-true_iff (within r b) (begins rs s)).0 e in
    omega (arith, within-high r b first, ltb-true r.high 256 ((and-eq-true_iff (ltb r.high 256) (low rs)).0 l).0)
begins-low (r ∷ rs) l (b ∷ s) e (suc k) h =
    begins-low rs ((and-eq-true_iff (ltb r.high 256) (low rs)).0 l).1 s ((and-eq-true_iff (within r b) (begins rs s)).0 e).1 k (omega arith)

-- bytes that begin with one of some alternatives
first-low : (alts : List (List Range)) → all_low alts ≡ true → (s : List ℕ) (k : ℕ) → k < first_length alts s → get_or s k 0 < 256
unfolding first_length
first-low [] l s k h = absurd (omega arith)
first-low (rs ∷ rest) l s k h =
    let (this, others) = (and-eq-true_iff (low rs) (all_low rest)).0 l in
    go (begins rs s) refl this (λ m. first-low rest others s k m) h
  where
    go :
        (t : Bool) →
        begins rs s ≡ t →
        low rs ≡ true →
        (k < first_length rest s → get_or s k 0 < 256) →
        k < elim t as (λ _. ℕ) [ true ↦ length rs | false ↦ first_length rest s ] →
        get_or s k 0 < 256
    go true e this others m = begins-low rs this s e k m
    go false e this others m = others m

-- a character
char-low : (s : List ℕ) (k : ℕ) → k < char_length s → get_or s k 0 < 256
unfolding char_length
char-low s k h = first-low alternatives refl s k h

-- characters, after the rest of one that was met already
octets-low : (skip at : ℕ) (s : List ℕ) → octets_from skip at s ≡ Ok tt → ((k : ℕ) → k < skip → get_or s k 0 < 256) → (k : ℕ) → get_or s k 0 < 256
unfolding octets_from
octets-low skip at [] e h k = omega arith
octets-low (suc skip) at (b ∷ s) e h zero = h 0 (omega arith)
octets-low (suc skip) at (b ∷ s) e h (suc k) = octets-low skip (at + 1) s e (λ j l. h (suc j) (omega arith)) k
octets-low zero at (b ∷ s) e h k = go (char_length (b ∷ s)) (char-low (b ∷ s)) e (λ n f m. octets-low n (at + 1) s f m) k
  where
    go :
        (n : ℕ) →
        ((k : ℕ) → k < n → get_or (b ∷ s) k 0 < 256) →
        elim n as (λ _. Result (Unit {0}) Utf8Error) [ zero ↦ ill_formed at | suc n ↦ octets_from n (at + 1) s ] ≡ Ok tt →
        ((n : ℕ) → octets_from n (at + 1) s ≡ Ok tt → ((k : ℕ) → k < n → get_or s k 0 < 256) → (k : ℕ) → get_or s k 0 < 256) →
        (k : ℕ) → get_or (b ∷ s) k 0 < 256
    go zero h f rest k = absurd cc
    go (suc n) h f rest zero = h 0 (omega arith)
    go (suc n) h f rest (suc k) = rest n f (λ j l. h (suc j) (omega arith)) k

pub well-formed-bytes : (s : List ℕ) → well_formed s ≡ true → (k : ℕ) → get_or s k 0 < 256
unfolding utf8_of
well-formed-bytes s e = go (utf8_of s) refl
  where
    go : (u : Result (Unit {0}) Utf8Error) → utf8_of s ≡ u → (k : ℕ) → get_or s k 0 < 256
    go (Ok a) f = octets-low 0 0 s f (λ k l. absurd (omega arith))
    go (Err error) f =
        let no = not-well-formed s error.valid_up_to f in
        absurd cc
