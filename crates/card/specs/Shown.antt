-- What a card shows of what is said of a section.
use Rattle.std.specs.Prelude.{Option, None, Some}
use Rattle.accepted.specs.Sections.{Found}
use Rattle.display.specs.Summary.{summary_of}
use Rattle.display.specs.declared.summary.Summary.{Summary}
use Rattle.display.specs.declared.summary.Summary.TheVariants.{Uncompressed, Zlib, SourceNames, Arguments, Unknown}

abbrev pub shown : Summary → Option Summary
shown (Uncompressed count) = Some (Uncompressed count)
shown (Zlib count bytes) = Some (Zlib count 0)
shown (SourceNames count) = Some (SourceNames count)
shown (Arguments count) = Some (Arguments count)
shown (Unknown kind bytes) = None

-- and of a section that was found
abbrev pub shown_of : Found → Option Summary
shown_of s = shown (summary_of s)
