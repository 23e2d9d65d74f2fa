-- What has tags, by them: those of one tag that stand at the start, how many they are and what they are written as, whatever they are read as.
-- Assumes nothing.
use Rattle.std.specs.Prelude.{Option}
use Prim.Native.Nat.{ℕ, suc}
use mathlib.Core.Bool.{Bool, true, false}
use mathlib.Core.List.{List, [], ◌∷◌, ◌++◌, flat_map}
use mathlib.Core.Path.{◌≡◌, refl, ap, ap₂}
use lib.ListN.{length}
use Rattle.table.specs.Tags.{same_tag, leading_by}
use Rattle.table.specs.declared.tag.Tag.{Tag}
use Rattle.table.proofs.Tags.{same_tag_lem, other_tag, tag_same}

module _ {X A : Type 0} (own : X → Option Tag) (tag : Option Tag) (f : X → A) where
  pub first-leads : (x : X) (xs : List X) → own x ≡ tag → leading_by own tag f (x ∷ xs) ≡ f x ∷ leading_by own tag f xs
  first-leads x xs q = rw (same_tag_lem (own x) tag q, leading_by)

  pub none-leads : (x : X) (xs : List X) → (own x ≡ tag → ⊥) → leading_by own tag f (x ∷ xs) ≡ []
  none-leads x xs n = rw (other_tag (own x) tag n, leading_by)

  pub leading-count : (xs : List X) → length (leading_by own tag f xs) ≡ length (leading_by own tag (λ (x : X). x) xs)
  leading-count [] = refl
  leading-count (x ∷ xs) = go (same_tag (own x) tag) (leading-count xs)
    where
      go :
          (b : Bool) →
          length (leading_by own tag f xs) ≡ length (leading_by own tag (λ (x : X). x) xs) →
          length {A = A} (elim b [ true ↦ f x ∷ leading_by own tag f xs | false ↦ [] ])
          ≡ length {A = X} (elim b [ true ↦ x ∷ leading_by own tag (λ (x : X). x) xs | false ↦ [] ])
      go true rest = ap suc rest
      go false rest = refl

  -- `bytes` writes each as it stands, and `g` what f read
  pub leading-bytes :
      (bytes : X → List ℕ) (g : A → List ℕ) →
      ((x : X) → own x ≡ tag → bytes x ≡ g (f x)) →
      (xs : List X) →
      flat_map bytes (leading_by own tag (λ (x : X). x) xs) ≡ flat_map g (leading_by own tag f xs)
  unfolding flat_map
  leading-bytes bytes g same [] = refl
  leading-bytes bytes g same (x ∷ xs) = go (same_tag (own x) tag) refl (leading-bytes bytes g same xs)
    where
      go :
          (b : Bool) →
          same_tag (own x) tag ≡ b →
          flat_map bytes (leading_by own tag (λ (x : X). x) xs) ≡ flat_map g (leading_by own tag f xs) →
          flat_map bytes (elim b [ true ↦ x ∷ leading_by own tag (λ (x : X). x) xs | false ↦ [] ])
          ≡ flat_map g (elim b [ true ↦ f x ∷ leading_by own tag f xs | false ↦ [] ])
      go true e rest = ap₂ (λ (a b : List ℕ). a ++ b) (same x (tag_same (own x) tag e)) rest
      go false e rest = refl
