-- UTF8-octets from a place of a text on: a step over a whole character keeps the answer.
-- Assumes nothing.
use Rattle.utf8.specs.declared.Utf8Error.{Utf8Error}
use Rattle.std.specs.Prelude.{Result, Ok, Some, None}
use mathlib.Core.Path.{◌≡◌, refl, sym, ◌∙◌, ap, ap₂}
use mathlib.Core.Bool.{Bool, true, false, ◌&&◌}
use mathlib.Core.List.{List, [], ◌∷◌}
use Prim.Native.Nat.{ℕ, zero, suc, ◌+◌, ◌≤◌, ◌<◌}
use native.Mathlib.Nat.{add-zero, not-suc-le-zero}
use native.Mathlib.Omega.{arith}
use lib.Dec.{leb-zero}
use lib.ListN.{length, get_or, drop, length-drop, drop_of_length-le}
use lib.Seq.{drop-cons, drop-drop}
use borrow.Author.Tests.{le-leb}
use Rattle.utf8.specs.Classes.{nonzero}
use Rattle.utf8.proofs.Alternatives.{char-length}
use Rattle.utf8.specs.Rfc3629.{Range, begins, first_length, char_length, octets_from, ill_formed}

-- the rest of a character may be dropped at once
pub skip : (k i : ℕ) (s : List ℕ) → octets_from k i s ≡ octets_from 0 (i + k) (drop k s)
unfolding octets_from
skip zero i s = ap (λ (n : ℕ). octets_from 0 n s) (sym (add-zero i))
skip (suc k) i [] = refl
skip (suc k) i (b ∷ s) =
    skip k (i + 1) s ∙ ap (λ (n : ℕ). octets_from 0 n (drop k s)) (let e : i + 1 + k ≡ i + suc k = omega arith in e)

-- what octets_from picks by the length of a character
abbrev pick : ℕ → ℕ → List ℕ → Result (Unit {0}) Utf8Error
pick n i s = elim n [ zero ↦ ill_formed i | suc k ↦ octets_from k (i + 1) s ]

over : (s : List ℕ) (i n : ℕ) → char_length s ≡ suc n → octets_from 0 i s ≡ octets_from 0 (i + suc n) (drop (suc n) s)
unfolding octets_from
over [] i n e = refl
over (b ∷ s) i n e =
    ap (λ (m : ℕ). pick m i s) e ∙
    skip n (i + 1) s ∙
    ap (λ (m : ℕ). octets_from 0 m (drop n s)) (let h : i + 1 + n ≡ i + suc n = omega arith in h)

none : (s : List ℕ) (i : ℕ) → 0 < length s → char_length s ≡ 0 → octets_from 0 i s ≡ ill_formed i
unfolding octets_from
none [] i h e = absurd (not-suc-le-zero h)
none (b ∷ s) i h e = ap (λ (m : ℕ). pick m i s) e

first : (rs : List Range) (rest : List (List Range)) (s : List ℕ) → begins rs s ≡ true → first_length (rs ∷ rest) s ≡ length rs
unfolding first_length
first rs rest s e = ap (λ (t : Bool). elim t as (λ _. ℕ) [ true ↦ length rs | false ↦ first_length rest s ]) e

ascii-length : (b : ℕ) (s : List ℕ) → b < 0x80 → char_length (b ∷ s) ≡ 1
unfolding char_length begins
ascii-length b s h =
    first _ _ (b ∷ s)
    (ap₂ (λ (l m : Bool). l && m && true) (leb-zero b) (le-leb b 0x7F (omega arith)))

nonzero-some : (m n : ℕ) → Some n ≡ nonzero m → (m ≡ n) × (0 < n)
nonzero-some zero n e = cc
nonzero-some (suc m) n e = let h : n ≡ suc m = cc in (omega arith, omega arith)

nonzero-none : (m : ℕ) → None ≡ nonzero m → m ≡ 0
nonzero-none zero e = refl
nonzero-none (suc m) e = cc

module _ (s : List ℕ) (i : ℕ) where
  -- a step over the character at a place
  pub step : (n : ℕ) → char_length (drop i s) ≡ n → 0 < n → octets_from 0 (i + n) (drop (i + n) s) ≡ octets_from 0 i (drop i s)
  step zero e h = absurd (not-suc-le-zero h)
  step (suc n) e h = sym (over (drop i s) i n e ∙ ap (octets_from 0 (i + suc n)) (drop-drop (suc n) i s))

  pub ill-formed : i < length s → char_length (drop i s) ≡ 0 → octets_from 0 i (drop i s) ≡ ill_formed i
  ill-formed h e = none (drop i s) i (omega (arith, length-drop i s)) e

  -- the same by a length that is there, or is not
  pub step-some : (n : ℕ) → Some n ≡ nonzero (char_length (drop i s)) → octets_from 0 (i + n) (drop (i + n) s) ≡ octets_from 0 i (drop i s)
  step-some n e = let (long, more) = nonzero-some _ n e in step n long more

  pub inside : (n : ℕ) → Some n ≡ nonzero (char_length (drop i s)) → i < length s → (i + n ≤ length s) × (0 < n)
  inside n e h = let (long, more) = nonzero-some _ n e in (omega (arith, char-length (drop i s), length-drop i s), more)

  pub ill-formed-none : i < length s → None ≡ nonzero (char_length (drop i s)) → octets_from 0 i (drop i s) ≡ ill_formed i
  ill-formed-none h e = ill-formed h (nonzero-none _ e)

  pub ended : length s ≤ i → octets_from 0 i (drop i s) ≡ Ok tt
  unfolding octets_from
  ended h = ap (octets_from 0 i) (drop_of_length-le s h)

  -- a step over a byte of ASCII
  pub ascii : i < length s → get_or s i 0 < 0x80 → octets_from 0 (i + 1) (drop (i + 1) s) ≡ octets_from 0 i (drop i s)
  ascii h a = step 1 (ap char_length (drop-cons s i 0 h) ∙ ascii-length (get_or s i 0) (drop (suc i) s) a) (omega arith)

-- a step over a run of ASCII
pub ascii_run : (s : List ℕ) (i n : ℕ) → i + n ≤ length s → ((k : ℕ) → k < n → get_or s (i + k) 0 < 0x80) → octets_from 0 (i + n) (drop (i + n) s) ≡ octets_from 0 i (drop i s)
ascii_run s i zero h a = ap (λ (m : ℕ). octets_from 0 m (drop m s)) (add-zero i)
ascii_run s i (suc n) h a =
    ap (λ (m : ℕ). octets_from 0 m (drop m s)) (let e : i + suc n ≡ i + n + 1 = omega arith in e) ∙
    ascii s (i + n) (omega arith) (a n (omega arith)) ∙
    ascii_run s i n (omega arith) (λ k l. a k (omega arith))
