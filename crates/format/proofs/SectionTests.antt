-- Sections one by one: what the definition of the rest is once the first is known.
-- Assumes nothing.
use Rattle.std.specs.Prelude.{Err, Ok}
use Prim.Native.Nat.{ℕ, suc}
use mathlib.Core.List.{List, []}
use mathlib.Core.Path.{◌≡◌, ◌∙◌}
use borrow.Author.Tests.{eq-eqb, ne_eqb}
use lib.ListN.{length}
use Rattle.layout.proofs.Checked.{after-fault, after-good}
use Rattle.layout.specs.Checked.{check}
use Rattle.layout.specs.declared.refusal.Refusal.{Refusal}
use Rattle.layout.specs.declared.refusal.Refusal.TheVariants.{Leftover}
use Rattle.format.specs.Parse.{frame, parse_section, kind_at, parse_sections}

module _ (p : List ℕ) (at : ℕ) where
  pub sections-end : at ≡ length p → parse_sections 0 p at ≡ Ok []
  unfolding parse_sections check
  sections-end e = rw (eq-eqb at (length p) e)

  pub sections-left : (at ≡ length p → ⊥) → parse_sections 0 p at ≡ Err Leftover
  unfolding parse_sections check
  sections-left f = rw (ne_eqb at (length p) f)

  pub sections-unframed : (n : ℕ) {r : Refusal} → frame p at ≡ Err r → parse_sections (suc n) p at ≡ Err r
  unfolding parse_sections
  sections-unframed n e = after-fault _ _ e

  pub sections-refused : (n size : ℕ) {r : Refusal} → frame p at ≡ Ok size → parse_section (kind_at p at) p at size ≡ Err r → parse_sections (suc n) p at ≡ Err r
  unfolding parse_sections
  sections-refused n size e q = after-good _ _ e ∙ after-fault _ _ q
