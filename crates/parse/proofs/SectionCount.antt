-- How sections are counted, one by one.
-- Assumes nothing.
use Rattle.std.specs.Prelude.{Err, Ok}
use Prim.Native.Nat.{ℕ, suc, ◌+◌}
use mathlib.Core.List.{List, ◌++◌}
use mathlib.Core.Path.{◌≡◌, refl, ap, ◌∙◌}
use lib.ListN.{length, length-append}
use Rattle.layout.proofs.Checked.{after-good}
use Rattle.layout.specs.Checked.{Checked, then}
use Rattle.table.specs.declared.row.Row.{Row}
use Rattle.format.specs.Parse.{frame, parse_section, kind_at, parse_sections}
use Rattle.parse.specs.Outcome.{counted}
use Rattle.parse.proofs.Count.{add}

module _ (p : List ℕ) (at : ℕ) where
  pub sections-more : (n size : ℕ) (first : List Row) → frame p at ≡ Ok size → parse_section (kind_at p at) p at size ≡ Ok first → counted (parse_sections (suc n) p at) ≡ add (length first) (counted (parse_sections n p (at + size)))
  unfolding parse_sections then
  sections-more n size first e q = ap counted (after-good _ _ e ∙ after-good _ _ q) ∙ after (parse_sections n p (at + size))
    where
      after : (rest : Checked (List Row)) → counted (then rest (λ rs. Ok (first ++ rs))) ≡ add (length first) (counted rest)
      after (Err r) = refl
      after (Ok rs) = ap Ok (length-append first rs)
