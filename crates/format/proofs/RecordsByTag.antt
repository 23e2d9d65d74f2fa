-- Records by their tags: those of one tag that stand at the start.
-- Assumes nothing.
use Rattle.std.specs.Prelude.{Option, Some}
use mathlib.Core.List.{List, [], ◌∷◌}
use mathlib.Core.Path.{◌≡◌}
use Rattle.table.specs.declared.tag.Tag.{Tag}
use Rattle.table.proofs.Leading.{first-leads, none-leads}
use Rattle.format.specs.Records.{Record, leading}

abbrev own : Record → Option Tag
own r = Some r.tag

module _ {A : Type 0} (tag : Option Tag) (f : Record → A) (r : Record) (rs : List Record) where
  pub leading-more : Some r.tag ≡ tag → leading tag f (r ∷ rs) ≡ f r ∷ leading tag f rs
  unfolding leading
  leading-more q = first-leads own tag f r rs q

  pub leading-ends : (Some r.tag ≡ tag → ⊥) → leading tag f (r ∷ rs) ≡ []
  unfolding leading
  leading-ends n = none-leads own tag f r rs n
