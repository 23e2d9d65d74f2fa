-- The records of an accepted payload by the walk over its sections, with the count fields. It is what a pass over the payload follows; that these are the
-- records of its sections is a theorem (proofs/SheetFound.antt).
use Rattle.std.specs.Prelude.{ℕ, zero, suc, ◌+◌, ◌-◌}
use mathlib.Core.List.{List, [], ◌∷◌, map, flat_map}
use Rattle.wire.specs.Number.{u32_at}
use Rattle.layout.specs.Spans.{part}
use Rattle.layout.specs.declared.compression.SourceCompression.{SourceCompression}
use Rattle.layout.specs.declared.compression.SourceCompression.TheVariants.{None, Zlib}
use Rattle.layout.specs.declared.section_type.SourceInfoSectionType.{SourceInfoSectionType}
use Rattle.layout.specs.declared.section_type.SourceInfoSectionType.TheVariants.{SourceContents, SourceNames, Arguments, Unknown}
use Rattle.table.specs.declared.tag.Tag.TheVariants as tag
use Rattle.format.specs.Parse.{kind_at}
use Rattle.format.specs.PublicFacts.{pairs_at}
use Rattle.format.specs.Records.{Record, says, content_record, name_record, pair_record}
use Rattle.format.specs.Walk.{compression_at, places}
use Rattle.sheet.specs.Lines.{line}

module _ (p : List ℕ) where
  -- the text of the entry at a place, after a header of so many bytes
  abbrev pub text_after : ℕ → ℕ → List ℕ
  text_after header at = part p (at + header) (u32_at p (at + 8) - 1)

  -- the records of the content and of the name at a place
  abbrev pub content_at : ℕ → Record
  content_at at = content_record (text_after 12 at)

  abbrev pub name_at : ℕ → Record
  name_at at = name_record (record { text = text_after 16 at; content_size = u32_at p (at + 12) })

  -- so many entries from a place on, each as `record_at` has it
  unfoldable pub entries_at : (ℕ → Record) → ℕ → ℕ → List Record
  entries_at record_at zero at = []
  entries_at record_at (suc count) at = record_at at ∷ entries_at record_at count (at + u32_at p at)

  -- the section's own record of the section of a kind at a place
  abbrev pub plain_at : ℕ → Record
  plain_at at = says tag.PlainContents (u32_at p (at + 8) ∷ []) []

  abbrev pub packed_at : ℕ → Record
  packed_at at = says tag.PackedContents (u32_at p (at + 8) ∷ u32_at p (at + 24) ∷ u32_at p (at + 20) ∷ []) (part p (at + 28) (u32_at p (at + 16)) ∷ [])

  abbrev pub unknown_at : ℕ → ℕ → Record
  unknown_at kind at = says tag.Unknown (kind ∷ []) (part p (at + 8) (u32_at p at - 8) ∷ [])

  -- the records of the contents at a place, by the compression
  unfoldable pub contents_records : SourceCompression → ℕ → List Record
  contents_records None at = plain_at at ∷ entries_at content_at (u32_at p (at + 24)) (at + 28)
  contents_records Zlib at = packed_at at ∷ []

  -- those of the section of a kind at a place
  unfoldable pub section_records : SourceInfoSectionType → ℕ → List Record
  section_records SourceContents at = contents_records (compression_at p at) at
  section_records SourceNames at = says tag.Names [] [] ∷ entries_at name_at (u32_at p (at + 12)) (at + 18)
  section_records Arguments at = says tag.Arguments [] [] ∷ map pair_record (pairs_at p (u32_at p (at + 16)) (at + 20))
  section_records (Unknown kind) at = unknown_at kind at ∷ []

  abbrev pub records_at : ℕ → List Record
  records_at at = section_records (kind_at p at) at

  -- the lines of a payload
  unfoldable pub sheet_lines : List ℕ
  sheet_lines = flat_map line (flat_map records_at (places p))
