-- The sections one after the other: the next one as its header was read, and none after the last.
-- Assumes nothing.
use Rattle.std.proofs.Common.{◌≡◌, ℕ, zero, suc, ◌+◌, ◌-◌, ◌<◌, List, [], ◌∷◌, refl, arith}
use Rattle.layout.specs.declared.section_type.SourceInfoSectionType.{SourceInfoSectionType}
use Rattle.wire.specs.Number.{u32_at}
use Rattle.format.specs.Parse.{kind_at}
use Rattle.format.specs.Walk.{places_from}
use Rattle.accepted.specs.Sections.{sections_from}

module _ (p : List ℕ) where
  pub sections-next :
      (left at : ℕ) (kind : SourceInfoSectionType) (size : ℕ) →
      0 < left →
      kind ≡ kind_at p at →
      size ≡ u32_at p at →
      sections_from p left at ≡ record { bytes = p; kind = kind; at = at } ∷ sections_from p (left - 1) (at + size)
  unfolding sections_from places_from
  sections-next zero at kind size more told sized = absurd (omega arith)
  sections-next (suc left) at kind size more told sized =
      let fewer : suc left - 1 ≡ left = omega arith in
      rw (told, sized, fewer) refl

  pub sections-none : (left at : ℕ) → left ≡ 0 → sections_from p left at ≡ []
  unfolding sections_from places_from
  sections-none zero at none = refl
  sections-none (suc left) at none = absurd (omega arith)
