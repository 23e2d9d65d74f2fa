-- The card by what is shown of each section.
-- Assumes nothing.
use Rattle.std.proofs.Common.{◌≡◌, ℕ, zero, suc, ◌+◌, List, ◌∷◌, map, length, cond, ◌++◌, refl, sym, ap, ◌∙◌}
use Rattle.std.proofs.lemmas.List.{length-map}
use Rattle.std.specs.List.{count_by, cons_option, filter_map}
use mathlib.Core.List.{flat_map}
use Rattle.wire.specs.Number.{u16_at, u32_at}
use Rattle.layout.specs.Kinds.{known}
use Rattle.layout.specs.declared.compression.SourceCompression.{SourceCompression}
use Rattle.layout.specs.declared.compression.SourceCompression.TheVariants as stored
use Rattle.layout.specs.declared.section_type.SourceInfoSectionType.{SourceInfoSectionType}
use Rattle.layout.specs.declared.section_type.SourceInfoSectionType.TheVariants.{SourceContents, SourceNames, Arguments, Unknown}
use Rattle.format.specs.CardWalk.{public_contents_line, public_line, public_line_at, card}
use Rattle.format.specs.Display.{page}
use Rattle.format.specs.Parse.{kind_at}
use Rattle.format.specs.Walk.{compression_at, places_from, places}
use Rattle.accepted.proofs.Accepted.{known-many}
use Rattle.accepted.specs.Sections.{Found, sections_from}
use Rattle.display.specs.Summary.{stored_summary, summary_at, summary_line, page_said}
use Rattle.display.specs.declared.summary.Summary.{Summary}
use Rattle.card.specs.Shown.{shown, shown_of}

module _ (p : List ℕ) where
  -- a kind has a line where it is known
  line-known : (kind : SourceInfoSectionType) (at : ℕ) → length (public_line p kind at) ≡ cond (known kind) 1 0
  unfolding public_line
  line-known SourceContents at = refl
  line-known SourceNames at = refl
  line-known Arguments at = refl
  line-known (Unknown kind) at = refl

  -- what is shown of a section is its line
  contents-shown :
      (kept : SourceCompression) (at : ℕ) (rest : List Summary) →
      map summary_line (cons_option (shown (stored_summary p kept at)) rest) ≡ public_contents_line p kept at ∷ map summary_line rest
  unfolding public_contents_line
  contents-shown stored.None at rest = refl
  contents-shown stored.Zlib at rest = refl

  line-shown :
      (kind : SourceInfoSectionType) (at : ℕ) (rest : List Summary) →
      map summary_line (cons_option (shown (summary_at p kind at)) rest) ≡ public_line p kind at ++ map summary_line rest
  unfolding public_line
  line-shown SourceContents at rest = contents-shown (compression_at p at) at rest
  line-shown SourceNames at rest = refl
  line-shown Arguments at rest = refl
  line-shown (Unknown kind) at rest = refl

  all-shown : (count at : ℕ) → map summary_line (filter_map shown_of (sections_from p count at)) ≡ flat_map (public_line_at p) (places_from p count at)
  unfolding sections_from places_from flat_map
  all-shown zero at = refl
  all-shown (suc count) at =
      let next : ℕ = at + u32_at p at in
      line-shown (kind_at p at) at (filter_map shown_of (sections_from p count next)) ∙ ap (λ lines. public_line_at p at ++ lines) (all-shown count next)

  -- something is shown of a section of a known kind
  pub known_shown : (count at : ℕ) → count_by (λ (s : Found). known s.kind) (sections_from p count at) ≡ length (filter_map shown_of (sections_from p count at))
  known_shown count at =
      known-many p (public_line_at p) (λ at. line-known (kind_at p at) at) count at ∙
      sym (ap length (all-shown count at)) ∙
      length-map (filter_map shown_of (sections_from p count at)) summary_line

  pub as_card : page_said shown_of p ≡ card p
  unfolding page_said card places
  as_card = ap page (all-shown (u16_at p 6) 8)
