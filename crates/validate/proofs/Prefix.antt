-- The first part of a text, by the local rule: where every place of it is right and no character is open after it, reading on from there gives the
-- answer for the whole text. By `RuleGrammar.antt` that part is UTF8-octets, and what is UTF8-octets is passed over whatever follows it.
-- Assumes nothing.
use Rattle.utf8.specs.declared.Utf8Error.{Utf8Error}
use Rattle.std.specs.Prelude.{Err, ◌≡◌, ℕ, zero, suc, ◌+◌, ◌<◌, ◌≤◌, Bool, true, false, ◌&&◌, List, [], ◌∷◌, ◌++◌, length, get_or, take, drop, Result, Ok}
use mathlib.Core.Path.{refl, sym, ◌∙◌, ap}
use mathlib.Core.Bool.{true≢false}
use Prim.Native.Nat.{zero-le, suc-le-suc}
use native.Mathlib.Nat.{add-zero, not-suc-le-zero, le_of_suc-le-suc}
use native.Mathlib.Omega.{arith}
use lib.ListN.{take-append-drop}
use lib.Seq.{length-take-le}
use Rattle.utf8.specs.Rfc3629.{Range, alternatives, within, begins, char_length, octets_from, utf8_of, ill_formed}
use Rattle.utf8.specs.Classes.{class_of, length_after}
use Rattle.validate.specs.Rule.{due, right, right_from, right_at, open_at}
use Rattle.utf8.proofs.Alternatives.{length_at, class-length, char-length}
use Rattle.validate.proofs.RuleGrammar.{formed, agrees}

-- ---- a character is the same whatever follows it

begins-more : (rs : List Range) (u v : List ℕ) → begins rs u ≡ true → begins rs (u ++ v) ≡ true
unfolding begins
begins-more [] u v e = refl
begins-more (r ∷ rs) [] v e = absurd (true≢false (sym e))
begins-more (r ∷ rs) (b ∷ u) v e = go (within r b) e (begins-more rs u v)
  where
    go : (w : Bool) → (w && begins rs u) ≡ true → (begins rs u ≡ true → begins rs (u ++ v) ≡ true) → (w && begins rs (u ++ v)) ≡ true
    go true e more = more e
    go false e more = absurd (true≢false (sym e))

after_more : (rs : List Range) (u v : List ℕ) (n : ℕ) → length_after rs u ≡ suc n → length_after rs (u ++ v) ≡ suc n
unfolding length_after
after_more rs u v n e = go (begins rs u) refl e
  where
    go : (t : Bool) → begins rs u ≡ t → (elim t as (λ _. ℕ) [ true ↦ suc (length rs) | false ↦ 0 ]) ≡ suc n → (elim (begins rs (u ++ v)) as (λ _. ℕ) [ true ↦ suc (length rs) | false ↦ 0 ]) ≡ suc n
    go true q e = rw (begins-more rs u v q) e
    go false q e = absurd (omega arith)

length_more : (k : ℕ) (alts : List (List Range)) (u v : List ℕ) (n : ℕ) → length_at k alts u ≡ suc n → length_at k alts (u ++ v) ≡ suc n
unfolding length_at
length_more k [] u v n e = absurd (omega arith)
length_more zero (rs ∷ rest) u v n e = after_more (drop 1 rs) u v n e
length_more (suc k) (rs ∷ rest) u v n e = length_more k rest u v n e

char-more : (b : ℕ) (u v : List ℕ) (n : ℕ) → char_length (b ∷ u) ≡ suc n → char_length (b ∷ (u ++ v)) ≡ suc n
char-more b u v n e = class-length b (u ++ v) ∙ length_more (class_of b) alternatives u v n (sym (class-length b u) ∙ e)

-- ---- UTF8-octets are passed over, whatever follows them

abbrev pick : ℕ → ℕ → List ℕ → Result (Unit {0}) Utf8Error
pick n i s = elim n [ zero ↦ ill_formed i | suc k ↦ octets_from k (i + 1) s ]

passes : (u : List ℕ) (k at : ℕ) (v : List ℕ) → k ≤ length u → octets_from k at u ≡ Ok tt → octets_from k at (u ++ v) ≡ octets_from 0 (at + length u) v
unfolding octets_from
passes [] zero at v h e = ap (λ (n : ℕ). octets_from 0 n v) (sym (add-zero at))
passes [] (suc k) at v h e = absurd (not-suc-le-zero h)
passes (b ∷ u) (suc k) at v h e = passes u k (at + 1) v (le_of_suc-le-suc h) e ∙ ap (λ (n : ℕ). octets_from 0 n v) (let q : at + 1 + length u ≡ at + suc (length u) = omega arith in q)
passes (b ∷ u) zero at v h e = go (char_length (b ∷ u)) refl e (λ n. passes u n (at + 1) v)
  where
    go : (m : ℕ) → char_length (b ∷ u) ≡ m → pick m at u ≡ Ok tt → ((n : ℕ) → n ≤ length u → octets_from n (at + 1) u ≡ Ok tt → octets_from n (at + 1) (u ++ v) ≡ octets_from 0 (at + 1 + length u) v)
        → pick (char_length (b ∷ (u ++ v))) at (u ++ v) ≡ octets_from 0 (at + suc (length u)) v
    go zero q e on = absurd cc
    go (suc n) q e on =
        ap (λ (m : ℕ). pick m at (u ++ v)) (char-more b u v n q) ∙
        on n (omega (arith, char-length (b ∷ u))) e ∙
        ap (λ (n : ℕ). octets_from 0 n v) (let r : at + 1 + length u ≡ at + suc (length u) = omega arith in r)

-- ---- places that are right

-- over any three bytes before the text
prefix :
    (s : List ℕ) (r p3 p2 p1 : ℕ) → r ≤ length s
    → (let t : List ℕ = p3 ∷ p2 ∷ p1 ∷ s in
    ((i : ℕ) → i < r → right (get_or t i 0) (get_or t (suc i) 0) (get_or t (suc (suc i)) 0) (get_or t (suc (suc (suc i))) 0) ≡ true)
    → due (get_or t r 0) (get_or t (suc r) 0) (get_or t (suc (suc r)) 0) ≡ false
    → right_from p3 p2 p1 (take r s) ≡ true)
unfolding right_from
prefix s zero p3 p2 p1 h all shut = rw shut
prefix [] (suc r) p3 p2 p1 h all shut = absurd (not-suc-le-zero h)
prefix (b ∷ s) (suc r) p3 p2 p1 h all shut = rw (all 0 (omega arith)) (prefix s r p2 p1 b (le_of_suc-le-suc h) (λ i l. all (suc i) (suc-le-suc l)) shut)

module _ (s : List ℕ) where
  pub passed : (r : ℕ) → r ≤ length s → ((i : ℕ) → i < r → right_at s i ≡ true) → open_at s r ≡ false → octets_from 0 r (drop r s) ≡ utf8_of s
  unfolding right_at open_at utf8_of
  passed r h all shut =
      let part : List ℕ = take r s in
      let well : octets_from 0 0 part ≡ Ok tt = told (octets_from 0 0 part) refl (sym (agrees (length part) part (omega arith) 0 0 0 0 (unfold due in refl)) ∙ prefix s r 0 0 0 h all shut) in
      ap (λ (n : ℕ). octets_from 0 n (drop r s)) (let e : r ≡ 0 + length part = omega (arith, length-take-le r s h) in e) ∙
      sym (passes part 0 0 (drop r s) zero-le well) ∙
      ap (octets_from 0 0) (take-append-drop r s)
    where
      told : (u : Result (Unit {0}) Utf8Error) → octets_from 0 0 (take r s) ≡ u → formed u ≡ true → octets_from 0 0 (take r s) ≡ Ok tt
      told (Ok a) e t = e
      told (Err error) e t = absurd (true≢false (sym t))
