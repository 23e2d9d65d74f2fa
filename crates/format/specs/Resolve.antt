-- What rows say: sections, with the texts and bytes that the rows name.
use Rattle.std.specs.Prelude.{ℕ, List, [], ◌∷◌, ◌++◌, Option, Some, None, Ok}
use Rattle.layout.specs.Checked.{Checked, then}
use Rattle.layout.specs.Spans.{span_bytes}
use Rattle.table.specs.Rows.{bytes_span, text_span, value_span}
use Rattle.table.specs.Tags.{tag_of, leading_by}
use Rattle.table.specs.declared.row.Row.{Row}
use Rattle.table.specs.declared.tag.Tag.{Tag}
use Rattle.table.specs.declared.tag.Tag.TheVariants as tag
use Rattle.format.specs.Rules.{check_rows}
use Rattle.format.specs.Sections.{Name, Pair, Section, plain, packed, names, arguments, unknown}

-- the rows of a tag that stand at the start, each as f has it
unfoldable pub leading : {A : Type 0} → Option Tag → (Row → A) → List Row → List A
leading tag f rows = leading_by (λ (r : Row). tag_of r.tag) tag f rows

module _ (payload edit : List ℕ) where
  abbrev pub content_of : Row → List ℕ
  content_of r = span_bytes payload edit (text_span r)

  abbrev pub name_of : Row → Name
  name_of r = record { text = span_bytes payload edit (text_span r); content_size = r.c }

  abbrev pub pair_of : Row → Pair
  pair_of r = record { name = span_bytes payload edit (text_span r); value = span_bytes payload edit (value_span r) }

  -- the section that a row of a tag begins, with the entries that follow it; any other row begins none
  unfoldable pub begun : Option Tag → Row → List Row → List Section
  begun (Some tag.PlainContents) r rows = plain r.a (leading (Some tag.Content) content_of rows) ∷ []
  begun (Some tag.PackedContents) r rows = packed r.a (span_bytes payload edit (bytes_span r)) r.d r.e ∷ []
  begun (Some tag.Names) r rows = names (leading (Some tag.Name) name_of rows) ∷ []
  begun (Some tag.Arguments) r rows = arguments (leading (Some tag.Pair) pair_of rows) ∷ []
  begun (Some tag.Unknown) r rows = unknown r.a (span_bytes payload edit (bytes_span r)) ∷ []
  begun (Some tag.Content) r rows = []
  begun (Some tag.Name) r rows = []
  begun (Some tag.Pair) r rows = []
  begun None r rows = []

  unfoldable pub sections_of : List Row → List Section
  sections_of [] = []
  sections_of (r ∷ rows) = begun (tag_of r.tag) r rows ++ sections_of rows

  -- the sections of rows that obey the rules
  unfoldable pub resolve : List Row → Checked (List Section)
  resolve rows = then (check_rows payload edit None rows) (λ _. Ok (sections_of rows))
