-- What a section that was checked holds, by its kind.
use Rattle.std.specs.Prelude.{ℕ, ◌+◌, ◌≡◌, List}
use Rattle.wire.specs.Number.{u32_at}
use Rattle.layout.specs.declared.compression.SourceCompression.TheVariants as stored
use Rattle.layout.specs.declared.section_type.SourceInfoSectionType.{SourceInfoSectionType}
use Rattle.layout.specs.declared.section_type.SourceInfoSectionType.TheVariants as of
use Rattle.format.specs.Walk.{compression_at}
use Rattle.accepted.specs.declared.body.Body.{Body}
use Rattle.accepted.specs.declared.body.Body.TheVariants as body
use Rattle.accepted.specs.Entries.{entries_from, pairs_from}

-- what the section of a kind at a place holds
abbrev pub Holds : List ℕ → SourceInfoSectionType → ℕ → Body → Type 0
Holds p kind at (body.Contents entries) = (kind ≡ of.SourceContents) × (compression_at p at ≡ stored.None) × (entries ≡ entries_from p (u32_at p (at + 24)) (at + 28))
Holds p kind at body.Packed = (kind ≡ of.SourceContents) × (compression_at p at ≡ stored.Zlib)
Holds p kind at (body.Names entries) = (kind ≡ of.SourceNames) × (entries ≡ entries_from p (u32_at p (at + 12)) (at + 18))
Holds p kind at (body.Arguments pairs) = (kind ≡ of.Arguments) × (pairs ≡ pairs_from p (u32_at p (at + 16)) (at + 20))
Holds p kind at (body.Unknown number) = kind ≡ of.Unknown number
