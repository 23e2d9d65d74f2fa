-- The card of an accepted payload by the walk over its sections, with the count fields. It is what a pass over the payload follows; what it finds is the
-- card (proofs/CardFound.antt).
use Rattle.std.specs.Prelude.{ℕ, ◌+◌}
use mathlib.Core.List.{List, [], ◌∷◌, flat_map}
use Rattle.wire.specs.Number.{u32_at}
use Rattle.layout.specs.declared.compression.SourceCompression.{SourceCompression}
use Rattle.layout.specs.declared.compression.SourceCompression.TheVariants.{None, Zlib}
use Rattle.layout.specs.declared.section_type.SourceInfoSectionType.{SourceInfoSectionType}
use Rattle.layout.specs.declared.section_type.SourceInfoSectionType.TheVariants.{SourceContents, SourceNames, Arguments, Unknown}
use Rattle.format.specs.Display.{plain_line, packed_line, names_line, arguments_line, page}
use Rattle.format.specs.Parse.{kind_at}
use Rattle.format.specs.PublicCopy.{public_count}
use Rattle.format.specs.Walk.{compression_at, places}

module _ (p : List ℕ) where
  -- what the line of the contents at a place says, by the compression: of packed ones that no bytes are there
  unfoldable pub public_contents_line : SourceCompression → ℕ → List ℕ
  public_contents_line None at = plain_line (u32_at p (at + 24))
  public_contents_line Zlib at = packed_line (public_count (u32_at p (at + 24))) 0

  -- what the line of the section of a kind at a place says, if the kind is known
  unfoldable pub public_line : SourceInfoSectionType → ℕ → List (List ℕ)
  public_line SourceContents at = public_contents_line (compression_at p at) at ∷ []
  public_line SourceNames at = names_line (u32_at p (at + 12)) ∷ []
  public_line Arguments at = arguments_line (u32_at p (at + 16)) ∷ []
  public_line (Unknown kind) at = []

  abbrev pub public_line_at : ℕ → List (List ℕ)
  public_line_at at = public_line (kind_at p at) at

  unfoldable pub card : List ℕ
  card = page (flat_map public_line_at (places p))
