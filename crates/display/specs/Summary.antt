-- What a section's line says, by what was found of the section; the form of the lines that count records; and a page of lines.
use Rattle.std.specs.Prelude.{ℕ, ◌+◌, ◌-◌, List, Option, ◌++◌, map}
use Rattle.std.specs.List.{filter_map}
use Rattle.wire.specs.Number.{u32_at}
use Rattle.layout.specs.declared.compression.SourceCompression.{SourceCompression}
use Rattle.layout.specs.declared.compression.SourceCompression.TheVariants as stored
use Rattle.layout.specs.declared.section_type.SourceInfoSectionType.{SourceInfoSectionType}
use Rattle.layout.specs.declared.section_type.SourceInfoSectionType.TheVariants as kind
use Rattle.format.specs.Display.{ascii, decimal, heading, lines, page, plain_line, packed_line, names_line, arguments_line, unknown_line}
use Rattle.format.specs.Walk.{compression_at}
use Rattle.accepted.specs.Sections.{Found, sections}
use Rattle.display.specs.declared.summary.Summary.{Summary}
use Rattle.display.specs.declared.summary.Summary.TheVariants.{Uncompressed, Zlib, SourceNames, Arguments, Unknown}

module _ (p : List ℕ) where
  -- what is said of contents at a place, by their compression
  abbrev pub stored_summary : SourceCompression → ℕ → Summary
  stored_summary stored.None at = Uncompressed (u32_at p (at + 24))
  stored_summary stored.Zlib at = Zlib (u32_at p (at + 24)) (u32_at p (at + 16))

  abbrev pub contents_summary : ℕ → Summary
  contents_summary at = stored_summary (compression_at p at) at

  -- what is said of the section of a kind at a place
  abbrev pub summary_at : SourceInfoSectionType → ℕ → Summary
  summary_at kind.SourceContents at = contents_summary at
  summary_at kind.SourceNames at = SourceNames (u32_at p (at + 12))
  summary_at kind.Arguments at = Arguments (u32_at p (at + 16))
  summary_at (kind.Unknown n) at = Unknown n (u32_at p at - 8)

-- and of a section that was found
abbrev pub summary_of : Found → Summary
summary_of s = summary_at s.bytes s.kind s.at

abbrev pub summary_line : Summary → List ℕ
summary_line (Uncompressed count) = plain_line count
summary_line (Zlib count bytes) = packed_line count bytes
summary_line (SourceNames count) = names_line count
summary_line (Arguments count) = arguments_line count
summary_line (Unknown kind bytes) = unknown_line kind bytes

-- a line at a place, with a name, a number and a text
abbrev pub records_line : ℕ → List ℕ → ℕ → List ℕ → List ℕ
records_line place name count text = ascii "//   [" ++ (decimal place ++ (name ++ (decimal count ++ text)))

-- a heading that counts so many sections, and a line for each of what is said of them
abbrev pub page_of : ℕ → List Summary → List ℕ
page_of count said = heading count ++ lines 0 (map summary_line said)

-- the page of a payload that says so of its sections
unfoldable pub page_said : (Found → Option Summary) → List ℕ → List ℕ
page_said said p = page (map summary_line (filter_map said (sections p)))
