-- The listing of an accepted payload by the walk over its sections, with the count fields. It is what a pass over the payload follows; what it finds is the
-- listing (proofs/LinesFound.antt).
use Rattle.std.specs.Prelude.{ℕ, ◌+◌, ◌-◌, List, map}
use Rattle.wire.specs.Number.{u32_at}
use Rattle.layout.specs.declared.compression.SourceCompression.{SourceCompression}
use Rattle.layout.specs.declared.compression.SourceCompression.TheVariants.{None, Zlib}
use Rattle.layout.specs.declared.section_type.SourceInfoSectionType.{SourceInfoSectionType}
use Rattle.layout.specs.declared.section_type.SourceInfoSectionType.TheVariants.{SourceContents, SourceNames, Arguments, Unknown}
use Rattle.format.specs.Display.{plain_line, packed_line, names_line, arguments_line, unknown_line, page}
use Rattle.format.specs.Parse.{kind_at}
use Rattle.format.specs.Walk.{compression_at, places}

module _ (p : List ℕ) where
  -- what the line of the contents at a place says, by the compression
  unfoldable pub contents_line : SourceCompression → ℕ → List ℕ
  contents_line None at = plain_line (u32_at p (at + 24))
  contents_line Zlib at = packed_line (u32_at p (at + 24)) (u32_at p (at + 16))

  -- what the line of the section of a kind at a place says
  unfoldable pub section_line : SourceInfoSectionType → ℕ → List ℕ
  section_line SourceContents at = contents_line (compression_at p at) at
  section_line SourceNames at = names_line (u32_at p (at + 12))
  section_line Arguments at = arguments_line (u32_at p (at + 16))
  section_line (Unknown kind) at = unknown_line kind (u32_at p at - 8)

  abbrev pub line_at : ℕ → List ℕ
  line_at at = section_line (kind_at p at) at

  unfoldable pub listing : List ℕ
  listing = page (map line_at (places p))
