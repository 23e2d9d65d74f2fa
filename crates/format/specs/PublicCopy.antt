-- The public copy: the rows of an accepted payload with all that is not public taken out, written.
use Rattle.layout.specs.Refusals.{Answer}
use Rattle.std.specs.Prelude.{ℕ, Option, Some, None}
use mathlib.Core.List.{List, [], ◌∷◌, flat_map}
use Rattle.layout.specs.Checked.{Checked, then}
use Rattle.layout.specs.Spans.{span}
use Rattle.layout.specs.declared.span.Span.{Span}
use Rattle.table.specs.Rows.{plain_row, packed_row, content_row, name_row, text_span}
use Rattle.table.specs.Tags.{tag_of}
use Rattle.table.specs.declared.row.Row.{Row}
use Rattle.table.specs.declared.tag.Tag.{Tag}
use Rattle.table.specs.declared.tag.Tag.TheVariants.{PlainContents, PackedContents, Names, Arguments, Unknown, Content, Name, Pair}
use Rattle.format.specs.Parse.{parse}
use Rattle.format.specs.Write.{written}
use Rattle.format.specs.Output.{answer, output_after}

-- no bytes, of the payload
abbrev pub nothing : Span
nothing = span 0 0 0

-- what is kept of the count of packed contents: the count itself
abbrev pub public_count : ℕ → ℕ
public_count count = count

-- What becomes of a row of a tag. The header field becomes 0; a packed section keeps its count and stores nothing; an unknown
-- section goes; a content becomes empty, and a name's content size that of an empty content, 1.
unfoldable pub public_row : Option Tag → Row → List Row
public_row (Some PlainContents) r = plain_row 0 ∷ []
public_row (Some PackedContents) r = packed_row 0 nothing (public_count r.d) 0 ∷ []
public_row (Some Names) r = r ∷ []
public_row (Some Arguments) r = r ∷ []
public_row (Some Unknown) r = []
public_row (Some Content) r = content_row nothing ∷ []
public_row (Some Name) r = name_row (text_span r) 1 ∷ []
public_row (Some Pair) r = r ∷ []
public_row None r = []

unfoldable pub public_rows : List Row → List Row
public_rows rows = flat_map (λ (r : Row). public_row (tag_of r.tag) r) rows

-- the public copy of a payload, or reading's refusal
unfoldable pub public_copy : List ℕ → Checked (List ℕ)
public_copy payload = then (parse payload) (λ rows. written payload [] (public_rows rows))

-- what the call answers where so many bytes are lent
unfoldable pub copy_answer : List ℕ → ℕ → Answer
copy_answer payload room = answer (public_copy payload) room

-- the lent output after the call
unfoldable pub copy_output : List ℕ → List ℕ → List ℕ
copy_output payload output = output_after (public_copy payload) output
