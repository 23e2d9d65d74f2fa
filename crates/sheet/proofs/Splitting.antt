-- Parts and the bytes that they were split from: joined by the separator they are these bytes again, and what is joined from parts without separators
-- is split into them.
-- Assumes nothing.
use Prim.Native.Nat.{ℕ}
use mathlib.Core.Bool.{Bool, true, false}
use mathlib.Core.List.{List, [], ◌∷◌, ◌++◌, flat_map, append-nil}
use mathlib.Core.Path.{◌≡◌, refl, ap, ◌∙◌}
use borrow.Author.Tests.{eqb-true, eq-eqb}
use lib.Dec.{eqb}
use Rattle.format.specs.WellFormed.{All}
use Rattle.sheet.specs.Lines.{Parts, parts, split}

-- bytes without a separator
abbrev pub Free : ℕ → List ℕ → Type 0
Free separator s = All (λ (b : ℕ). eqb b separator ≡ false) s

-- parts, each after a separator
abbrev pub following : ℕ → List (List ℕ) → List ℕ
following separator fs = flat_map (λ (f : List ℕ). separator ∷ f) fs

module _ (separator : ℕ) where
  -- what a byte makes of the parts after it
  abbrev before : Bool → ℕ → Parts → Parts
  before is b p = elim is [ true ↦ parts [] (p.first ∷ p.rest) | false ↦ parts (b ∷ p.first) p.rest ]

  -- ---- from bytes to parts

  pub split-joined : (s : List ℕ) → (split separator s).first ++ following separator (split separator s).rest ≡ s
  unfolding split flat_map
  split-joined [] = refl
  split-joined (b ∷ s) = go (eqb b separator) refl (split-joined s)
    where
      p : Parts
      p = split separator s

      go :
          (is : Bool) →
          eqb b separator ≡ is →
          p.first ++ following separator p.rest ≡ s →
          (before is b p).first ++ following separator (before is b p).rest ≡ b ∷ s
      go true e h = rw (eqb-true b separator e) (ap (λ (l : List ℕ). separator ∷ l) h)
      go false e h = ap (λ (l : List ℕ). b ∷ l) h

  pub split-free : (s : List ℕ) → Free separator (split separator s).first × All (Free separator) (split separator s).rest
  unfolding split
  split-free [] = (tt, tt)
  split-free (b ∷ s) = go (eqb b separator) refl (split-free s)
    where
      p : Parts
      p = split separator s

      go :
          (is : Bool) →
          eqb b separator ≡ is →
          Free separator p.first × All (Free separator) p.rest →
          Free separator (before is b p).first × All (Free separator) (before is b p).rest
      go true e h = (tt, h)
      go false e h = ((e, h.0), h.1)

  -- ---- from parts to bytes

  pub free-split : (f : List ℕ) → Free separator f → split separator f ≡ parts f []
  unfolding split
  free-split [] h = refl
  free-split (b ∷ f) (e, h) = ap (λ (is : Bool). before is b (split separator f)) e ∙ ap (before false b) (free-split f h)

  -- bytes, a separator and bytes
  pub split-append : (a b : List ℕ) → split separator (a ++ separator ∷ b) ≡ parts (split separator a).first ((split separator a).rest ++ (split separator b).first ∷ (split separator b).rest)
  unfolding split
  split-append [] b = ap (λ (is : Bool). before is separator (split separator b)) (eq-eqb separator separator refl)
  split-append (c ∷ a) b = ap (before (eqb c separator) c) (split-append a b) ∙ go (eqb c separator)
    where
      p : Parts
      p = split separator a

      after : List (List ℕ)
      after = (split separator b).first ∷ (split separator b).rest

      go : (is : Bool) → before is c (parts p.first (p.rest ++ after)) ≡ parts (before is c p).first ((before is c p).rest ++ after)
      go true = refl
      go false = refl

  pub closed-split :
      (f s : List ℕ) → Free separator f → split separator (f ++ separator ∷ s) ≡ parts f ((split separator s).first ∷ (split separator s).rest)
  closed-split f s h = split-append f s ∙ rw (free-split f h)

  pub joined-split : (f : List ℕ) (fs : List (List ℕ)) → Free separator f → All (Free separator) fs → split separator (f ++ following separator fs) ≡ parts f fs
  unfolding flat_map
  joined-split f [] h hs = ap (split separator) (append-nil f) ∙ free-split f h
  joined-split f (g ∷ fs) h (k, ks) = closed-split f (g ++ following separator fs) h ∙ rw (joined-split g fs k ks)
