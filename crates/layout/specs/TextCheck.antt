-- What a text must be, wherever it stands: UTF-8, with no NUL inside.
use Rattle.std.specs.Prelude.{ℕ, not, List, Ok}
use Rattle.utf8.specs.Rfc3629.{well_formed}
use Rattle.find.specs.Nul.{has_nul}
use Rattle.layout.specs.Checked.{Checked, check}
use Rattle.layout.specs.Spans.{side_of, part}
use Rattle.layout.specs.declared.span.Span.{Span}
use Rattle.layout.specs.declared.refusal.Refusal.TheVariants.{NotUtf8, InnerNul}

-- checks a whole text
abbrev pub check_whole : List ℕ → Checked (Unit {0})
check_whole text =
    check (well_formed text) NotUtf8 (λ _.
    check (not (has_nul text)) InnerNul (λ _.
    Ok tt))

-- checks so many of the bytes from a start on as a text
unfoldable pub check_text : List ℕ → ℕ → ℕ → Checked (Unit {0})
check_text bytes start count = check_whole (part bytes start count)

-- the text that a span names
abbrev pub check_span : List ℕ → List ℕ → Span → Checked (Unit {0})
check_span payload edit s = check_text (side_of s.side payload edit) s.start s.count
