-- The numbers of section kinds and of compression, as DxilContainer.h gives them; which kinds are known; and the headers of entries.
use Rattle.std.specs.Prelude.{ℕ, ◌%◌, Bool, true, false, ◌&&◌, leb, eqb, zero, suc, Option, None, Some}
use Rattle.layout.specs.declared.section_type.SourceInfoSectionType.{SourceInfoSectionType}
use Rattle.layout.specs.declared.section_type.SourceInfoSectionType.TheVariants.{SourceContents, SourceNames, Arguments, Unknown}
use Rattle.layout.specs.declared.entry_kind.EntryKind.{EntryKind}
use Rattle.layout.specs.declared.entry_kind.EntryKind.TheVariants.{Content, Name}
use Rattle.layout.specs.declared.compression.SourceCompression.{SourceCompression}
use Rattle.layout.specs.declared.compression.SourceCompression.TheVariants as stored

-- the kind that a number stands for
abbrev pub section_type : ℕ → SourceInfoSectionType
section_type zero = SourceContents
section_type (suc zero) = SourceNames
section_type (suc (suc zero)) = Arguments
section_type (suc (suc (suc n))) = Unknown (suc (suc (suc n)))

-- the number of a kind
abbrev pub kind_number : SourceInfoSectionType → ℕ
kind_number SourceContents = 0
kind_number SourceNames = 1
kind_number Arguments = 2
kind_number (Unknown n) = n

-- whether a kind is known, so that a public copy has a section for one of it
abbrev pub known : SourceInfoSectionType → Bool
known SourceContents = true
known SourceNames = true
known Arguments = true
known (Unknown n) = false

-- the rule of unknown sections: a kind that is none of these and fits its field of 16 bits, and bytes whose number is a multiple of 4
abbrev pub unknown_rule : ℕ → ℕ → Bool
unknown_rule kind size = leb 3 kind && leb kind 65535 && eqb (size % 4) 0

-- the compression that a number stands for, if it stands for one
abbrev pub compression : ℕ → Option SourceCompression
compression zero = Some stored.None
compression (suc zero) = Some stored.Zlib
compression (suc (suc n)) = None

-- the compression of a number that was checked: what is not plain is packed
abbrev pub checked_compression : ℕ → SourceCompression
checked_compression zero = stored.None
checked_compression (suc n) = stored.Zlib

-- the number of a compression
abbrev pub compression_number : SourceCompression → ℕ
compression_number stored.None = 0
compression_number stored.Zlib = 1

-- the bytes of an entry before its text
abbrev pub header_size : EntryKind → ℕ
header_size Content = 12
header_size Name = 16
