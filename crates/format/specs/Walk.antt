-- How a second pass goes over an accepted payload, which it does not test again: by the sizes, the counts and the NULs. One walk over sections
-- serves every job; what reading's second pass finds on it stands here too. That these are the payload's rows is a theorem (proofs/WalkLaws.antt).
use Rattle.std.specs.Prelude.{ℕ, zero, suc, ◌+◌, ◌-◌, drop}
use mathlib.Core.List.{List, [], ◌∷◌, flat_map}
use Rattle.find.specs.Nul.{until_nul}
use Rattle.wire.specs.Length.{wire_size}
use Rattle.wire.specs.Number.{u16_at, u32_at}
use Rattle.layout.specs.Kinds.{checked_compression}
use Rattle.layout.specs.Spans.{span}
use Rattle.layout.specs.declared.compression.SourceCompression.{SourceCompression}
use Rattle.layout.specs.declared.compression.SourceCompression.TheVariants.{None, Zlib}
use Rattle.layout.specs.declared.section_type.SourceInfoSectionType.{SourceInfoSectionType}
use Rattle.layout.specs.declared.section_type.SourceInfoSectionType.TheVariants.{SourceContents, SourceNames, Arguments, Unknown}
use Rattle.table.specs.Rows.{plain_row, names_row, arguments_row, pair_row}
use Rattle.table.specs.declared.row.Row.{Row}
use Rattle.format.specs.Parse.{name_row_at, content_row_at, packed_row_at, unknown_row_at, after_pair, kind_at}

module _ (p : List ℕ) where
  -- ---- sections

  -- the places of so many sections, the first of which stands at a place
  unfoldable pub places_from : ℕ → ℕ → List ℕ
  places_from zero at = []
  places_from (suc count) at = at ∷ places_from count (at + u32_at p at)

  -- the places of a payload's sections
  unfoldable pub places : List ℕ
  places = places_from (u16_at p 6) 8

  -- the compression of the contents at a place
  abbrev pub compression_at : ℕ → SourceCompression
  compression_at at = checked_compression (u16_at p (at + 14))

  -- ---- entries and pairs

  -- the rows of the content and of the name at a place
  abbrev pub content_at : ℕ → Row
  content_at at = content_row_at at (u32_at p (at + 8) - 1)

  abbrev pub name_at : ℕ → Row
  name_at at = name_row_at p at (u32_at p (at + 8) - 1)

  -- so many entries from a place on, each as `row_at` has it
  unfoldable pub walk_entries : (ℕ → Row) → ℕ → ℕ → List Row
  walk_entries row_at zero at = []
  walk_entries row_at (suc count) at = row_at at ∷ walk_entries row_at count (at + u32_at p at)

  -- the place after so many entries
  unfoldable pub entries_end : ℕ → ℕ → ℕ
  entries_end zero at = at
  entries_end (suc count) at = entries_end count (at + u32_at p at)

  -- the row of the pair at a place
  abbrev pub pair_at : ℕ → Row
  pair_at at =
      let name : ℕ = until_nul (drop at p) in
      let start : ℕ = at + wire_size name in
      pair_row (span 0 at name) (span 0 start (until_nul (drop start p)))

  unfoldable pub walk_pairs : ℕ → ℕ → List Row
  walk_pairs zero at = []
  walk_pairs (suc count) at = pair_at at ∷ walk_pairs count (after_pair (pair_at at))

  -- the place after so many pairs
  unfoldable pub pairs_end : ℕ → ℕ → ℕ
  pairs_end zero at = at
  pairs_end (suc count) at = pairs_end count (after_pair (pair_at at))

  -- ---- rows

  -- those of the contents at a place, by the compression
  unfoldable pub walk_contents : SourceCompression → ℕ → List Row
  walk_contents None at = plain_row (u32_at p (at + 8)) ∷ walk_entries content_at (u32_at p (at + 24)) (at + 28)
  walk_contents Zlib at = packed_row_at p at ∷ []

  -- those of the section of a kind at a place
  unfoldable pub walk_section : SourceInfoSectionType → ℕ → List Row
  walk_section SourceContents at = walk_contents (compression_at at) at
  walk_section SourceNames at = names_row ∷ walk_entries name_at (u32_at p (at + 12)) (at + 18)
  walk_section Arguments at = arguments_row ∷ walk_pairs (u32_at p (at + 16)) (at + 20)
  walk_section (Unknown kind) at = unknown_row_at kind at (u32_at p at) ∷ []

  abbrev pub rows_at : ℕ → List Row
  rows_at at = walk_section (kind_at p at) at

  unfoldable pub walk : List Row
  walk = flat_map rows_at places
