-- Rows by their tags: what is known of every row, and of the rows of one tag that stand at the start.
-- Assumes nothing.
use Rattle.std.specs.Prelude.{Option}
use Prim.Native.Nat.{ℕ, zero, suc, ◌<◌}
use mathlib.Core.List.{List, [], ◌∷◌, ◌++◌, map}
use mathlib.Core.Path.{◌≡◌, refl, subst}
use native.Mathlib.Omega.{arith}
use lib.ListN.{length, get_or}
use Rattle.table.specs.Tags.{tag_of}
use Rattle.table.specs.declared.row.Row.{Row}
use Rattle.table.specs.declared.tag.Tag.{Tag}
use Rattle.table.proofs.Leading.{first-leads, none-leads}
use Rattle.table.proofs.Tags.{tag-discrete}
use Rattle.format.specs.Resolve.{leading}
use Rattle.format.specs.WellFormed.{All}

pub all_append : {A : Type 0} (P : A → Type 0) (a b : List A) → All P a → All P b → All P (a ++ b)
all_append P [] b h k = k
all_append P (x ∷ a) b h k = (h.0, all_append P a b h.1 k)

-- what holds at every index holds of all
pub all_found : {A : Type 0} (P : A → Type 0) (d : A) (l : List A) → ((i : ℕ) → i < length l → P (get_or l i d)) → All P l
all_found P d [] h = tt
all_found P d (x ∷ l) h = (h 0 (omega arith), all_found P d l (λ i less. h (suc i) (omega arith)))

-- and what holds of all holds at every index, where it holds of what stands for the others
pub all-at : {A : Type 0} (P : A → Type 0) (d : A) (l : List A) → All P l → P d → (i : ℕ) → P (get_or l i d)
all-at P d [] h k i = k
all-at P d (x ∷ l) h k zero = h.0
all-at P d (x ∷ l) h k (suc i) = all-at P d l h.1 k i

-- of every row holds what `Known` says of a row of its tag
abbrev pub Every : (Option Tag → Row → Type 0) → List Row → Type 0
Every Known rows = All (λ (r : Row). Known (tag_of r.tag) r) rows

pub every-both : (P Q : Option Tag → Row → Type 0) (rows : List Row) → Every P rows → Every Q rows → Every (λ t r. P t r × Q t r) rows
every-both P Q [] h k = tt
every-both P Q (r ∷ rows) h k = ((h.0, k.0), every-both P Q rows h.1 k.1)

-- ---- the rows of a tag that stand at the start

abbrev own : Row → Option Tag
own r = tag_of r.tag

module _ {A : Type 0} (tag : Option Tag) (f : Row → A) (r : Row) (rows : List Row) where
  pub leading-more : tag_of r.tag ≡ tag → leading tag f (r ∷ rows) ≡ f r ∷ leading tag f rows
  unfolding leading
  leading-more q = first-leads own tag f r rows q

  pub leading-ends : (tag_of r.tag ≡ tag → ⊥) → leading tag f (r ∷ rows) ≡ []
  unfolding leading
  leading-ends n = none-leads own tag f r rows n

module _ (Known : Option Tag → Row → Type 0) {A : Type 0} (tag : Option Tag) (f : Row → A) where
  pub leading-all :
      (P : A → Type 0) →
      ((r : Row) → Known tag r → P (f r)) →
      (rows : List Row) →
      Every Known rows →
      All P (leading tag f rows)
  leading-all P h [] k = unfold leading in tt
  leading-all P h (r ∷ rows) k =
      let rest = leading-all P h rows k.1 in
      elim (tag-discrete (tag_of r.tag) tag) [
        | yes q ↦ rw leading-more (h r (subst (λ (t : Option Tag). Known t r) q k.0), rest)
        | no n ↦ rw leading-ends tt
      ]

  pub leading-map :
      {B : Type 0} (g : A → B) (s : Row → B) →
      ((r : Row) → tag_of r.tag ≡ tag → Known tag r → g (f r) ≡ s r) →
      (rows : List Row) →
      Every Known rows →
      map g (leading tag f rows) ≡ leading tag s rows
  leading-map g s h [] k = unfold leading in refl
  leading-map g s h (r ∷ rows) k =
      let rest = leading-map g s h rows k.1 in
      elim (tag-discrete (tag_of r.tag) tag) [
        | yes q ↦ simp leading-more (cc (h r q (subst (λ (t : Option Tag). Known t r) q k.0)))
        | no n ↦ simp leading-ends
      ]
