-- The listing by what is said of each section.
-- Assumes nothing.
use Rattle.std.proofs.Common.{◌≡◌, ℕ, zero, suc, ◌+◌, List, map, length, Some, refl, ap}
use Rattle.std.specs.List.{filter_map}
use Rattle.wire.specs.Number.{u16_at, u32_at}
use Rattle.layout.specs.declared.compression.SourceCompression.{SourceCompression}
use Rattle.layout.specs.declared.compression.SourceCompression.TheVariants.{None, Zlib}
use Rattle.layout.specs.declared.section_type.SourceInfoSectionType.{SourceInfoSectionType}
use Rattle.layout.specs.declared.section_type.SourceInfoSectionType.TheVariants.{SourceContents, SourceNames, Arguments, Unknown}
use Rattle.format.specs.Display.{page}
use Rattle.format.specs.Lines.{contents_line, section_line, line_at, listing}
use Rattle.format.specs.Parse.{kind_at}
use Rattle.format.specs.Walk.{compression_at, places_from, places}
use Rattle.accepted.specs.Sections.{sections_from}
use Rattle.display.specs.Summary.{stored_summary, summary_at, summary_of, summary_line, page_said}

module _ (p : List ℕ) where
  contents-said : (stored : SourceCompression) (at : ℕ) → summary_line (stored_summary p stored at) ≡ contents_line p stored at
  unfolding contents_line
  contents-said None at = refl
  contents-said Zlib at = refl

  -- what is said of a section is its line
  said : (kind : SourceInfoSectionType) (at : ℕ) → summary_line (summary_at p kind at) ≡ section_line p kind at
  unfolding section_line
  said SourceContents at = contents-said (compression_at p at) at
  said SourceNames at = refl
  said Arguments at = refl
  said (Unknown kind) at = refl

  all-said : (count at : ℕ) → map summary_line (filter_map (λ s. Some (summary_of s)) (sections_from p count at)) ≡ map (line_at p) (places_from p count at)
  unfolding sections_from places_from
  all-said zero at = refl
  all-said (suc count) at = rw (said (kind_at p at) at, all-said count (at + u32_at p at)) refl

  -- of each section something is said
  pub all_counted : (count at : ℕ) → length (filter_map (λ s. Some (summary_of s)) (sections_from p count at)) ≡ count
  unfolding sections_from places_from
  all_counted zero at = refl
  all_counted (suc count) at = ap suc (all_counted count (at + u32_at p at))

  pub as_listing : page_said (λ s. Some (summary_of s)) p ≡ listing p
  unfolding page_said listing places
  as_listing = ap page (all-said (u16_at p 6) 8)
