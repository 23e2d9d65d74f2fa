-- Parts, as a search for the separator finds them: the first ends at the first separator, and the others are the parts of what follows it.
-- Assumes nothing.
use Prim.Native.Nat.{ℕ, suc, ◌+◌, ◌-◌, ◌≤◌, ◌<◌}
use mathlib.Core.Bool.{Bool, true, false}
use mathlib.Core.List.{List, [], ◌∷◌}
use mathlib.Core.Path.{◌≡◌, refl, sym, ap, ◌∙◌}
use native.Mathlib.Omega.{arith}
use lib.Dec.{eqb}
use lib.ListN.{length, take, drop, length-drop}
use lib.Seq.{drop-drop}
use Rattle.find.specs.Find.{until, is_any}
use Rattle.find.proofs.FindLaws.{any-one, until-found, until-more}
use Rattle.sheet.specs.Lines.{Parts, parts, split}

module _ (separator : ℕ) where
  -- what is searched for
  abbrev pub ends : ℕ → Bool
  ends = is_any (separator ∷ [])

  -- what a byte makes of the parts after it
  abbrev before : Bool → ℕ → Parts → Parts
  before is b p = elim is [ true ↦ parts [] (p.first ∷ p.rest) | false ↦ parts (b ∷ p.first) p.rest ]

  split-here : (b : ℕ) (s : List ℕ) → eqb b separator ≡ true → split separator (b ∷ s) ≡ parts [] ((split separator s).first ∷ (split separator s).rest)
  unfolding split
  split-here b s e = ap (λ (is : Bool). before is b (split separator s)) e

  split-past : (b : ℕ) (s : List ℕ) → eqb b separator ≡ false → split separator (b ∷ s) ≡ parts (b ∷ (split separator s).first) (split separator s).rest
  unfolding split
  split-past b s e = ap (λ (is : Bool). before is b (split separator s)) e

  pub first_part : (s : List ℕ) → (split separator s).first ≡ take (until ends s) s
  first_part [] = unfold split until in refl
  first_part (b ∷ s) = go (eqb b separator) refl (first_part s)
    where
      go :
          (is : Bool) →
          eqb b separator ≡ is →
          (split separator s).first ≡ take (until ends s) s →
          (split separator (b ∷ s)).first ≡ take (until ends (b ∷ s)) (b ∷ s)
      go true e more = rw (split-here b s e, until-found ends b s (any-one separator b ∙ e))
      go false e more = rw (split-past b s e, until-more ends b s (any-one separator b ∙ e)) (ap (λ (l : List ℕ). b ∷ l) more)

  -- the bytes after the first separator; none where there is none
  abbrev after : List ℕ → List ℕ
  after s = drop (suc (until ends s)) s

  rest-found : (s : List ℕ) → until ends s < length s → (split separator s).rest ≡ (split separator (after s)).first ∷ (split separator (after s)).rest
  rest-found [] h = absurd (omega arith)
  rest-found (b ∷ s) h = go (eqb b separator) refl (rest-found s)
    where
      go :
          (is : Bool) →
          eqb b separator ≡ is →
          (until ends s < length s → (split separator s).rest ≡ (split separator (after s)).first ∷ (split separator (after s)).rest) →
          (split separator (b ∷ s)).rest ≡ (split separator (after (b ∷ s))).first ∷ (split separator (after (b ∷ s))).rest
      go true e more = rw (split-here b s e, until-found ends b s (any-one separator b ∙ e))
      go false e more =
          let past = until-more ends b s (any-one separator b ∙ e) in
          rw (split-past b s e, past) (more (omega arith))

  rest-none : (s : List ℕ) → length s ≤ until ends s → (split separator s).rest ≡ []
  rest-none [] h = unfold split in refl
  rest-none (b ∷ s) h = go (eqb b separator) refl (rest-none s)
    where
      go :
          (is : Bool) →
          eqb b separator ≡ is →
          (length s ≤ until ends s → (split separator s).rest ≡ []) →
          (split separator (b ∷ s)).rest ≡ []
      go true e more = absurd (omega (arith, until-found ends b s (any-one separator b ∙ e)))
      go false e more = rw (split-past b s e) (more (omega (arith, until-more ends b s (any-one separator b ∙ e))))

  -- ---- from a place on, with the end of the part there

  module _ (s : List ℕ) (at end : ℕ) (is : end ≡ at + until ends (drop at s)) where
    pub part_end_lem : take (end - at) (drop at s) ≡ (split separator (drop at s)).first
    part_end_lem =
        let many : end - at ≡ until ends (drop at s) = omega arith in
        ap (λ (n : ℕ). take n (drop at s)) many ∙ sym (first_part (drop at s))

    pub last-part : end ≡ length s → (split separator (drop at s)).rest ≡ []
    last-part e = rest-none (drop at s) (omega (arith, length-drop at s))

    pub next-part : end < length s → (split separator (drop at s)).rest ≡ (split separator (drop (end + 1) s)).first ∷ (split separator (drop (end + 1) s)).rest
    next-part l =
        let same : end + 1 ≡ at + suc (until ends (drop at s)) = omega arith in
        let from : drop (end + 1) s ≡ after (drop at s) = ap (λ (n : ℕ). drop n s) same ∙ sym (drop-drop (suc (until ends (drop at s))) at s) in
        rw from (rest-found (drop at s) (omega (arith, length-drop at s)))
