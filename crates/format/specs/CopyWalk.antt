-- The public copy of an accepted payload by the walk over its sections, with the count fields. It is what a pass over the payload follows; what it finds is
-- the public copy (proofs/CopyFound.antt).
use Rattle.std.specs.Prelude.{ℕ, zero, suc, ◌+◌, ◌-◌, length, replicate}
use mathlib.Core.List.{List, [], ◌∷◌, ◌++◌, flat_map}
use Rattle.wire.specs.Number.{u16_at, u32_at}
use Rattle.layout.specs.Spans.{part}
use Rattle.layout.specs.declared.compression.SourceCompression.{SourceCompression}
use Rattle.layout.specs.declared.compression.SourceCompression.TheVariants.{None, Zlib}
use Rattle.layout.specs.declared.section_type.SourceInfoSectionType.{SourceInfoSectionType}
use Rattle.layout.specs.declared.section_type.SourceInfoSectionType.TheVariants.{SourceContents, SourceNames, Arguments, Unknown}
use Rattle.format.specs.Encoding.{u16, u32, encode_section}
use Rattle.format.specs.Parse.{kind_at}
use Rattle.format.specs.PublicCopy.{public_count}
use Rattle.format.specs.Sections.{plain, packed}
use Rattle.format.specs.Walk.{compression_at, places}

-- contents of so many records, by the compression
unfoldable pub contents_copy : SourceCompression → ℕ → List ℕ
contents_copy None count = encode_section (plain 0 (replicate count []))
contents_copy Zlib count = encode_section (packed 0 [] (public_count count) 0)

-- the main header, and the sections' bytes after it
unfoldable pub copy_of : List (List ℕ) → List ℕ
copy_of sections =
    let bytes : List ℕ = flat_map (λ (s : List ℕ). s) sections in
    u32 (8 + length bytes) ++ (u16 0 ++ (u16 (length sections) ++ bytes))

module _ (p : List ℕ) where
  -- the entry of names at a place, with 1 for its content size
  abbrev pub name_copy : ℕ → List ℕ
  name_copy at = part p at 12 ++ (u32 1 ++ part p (at + 16) (u32_at p at - 16))

  -- so many entries from a place on
  unfoldable pub name_copies : ℕ → ℕ → List ℕ
  name_copies zero at = []
  name_copies (suc count) at = name_copy at ++ name_copies count (at + u32_at p at)

  -- names: the entries are changed, and what stands before and after them stays
  unfoldable pub names_copy : ℕ → List ℕ
  names_copy at =
      let bytes : ℕ = u16_at p (at + 16) in
      part p at 18 ++ (name_copies (u32_at p (at + 12)) (at + 18) ++ part p (at + 18 + bytes) (u32_at p at - (18 + bytes)))

  -- what a public copy has for the section of a kind at a place: a section, or none
  unfoldable pub section_copy : SourceInfoSectionType → ℕ → List (List ℕ)
  section_copy SourceContents at = contents_copy (compression_at p at) (u32_at p (at + 24)) ∷ []
  section_copy SourceNames at = names_copy at ∷ []
  section_copy Arguments at = part p at (u32_at p at) ∷ []
  section_copy (Unknown kind) at = []

  abbrev pub copy_at : ℕ → List (List ℕ)
  copy_at at = section_copy (kind_at p at) at

  unfoldable pub copy : List ℕ
  copy = copy_of (flat_map copy_at (places p))
