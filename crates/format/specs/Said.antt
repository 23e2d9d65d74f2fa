-- What a row says, places apart: its tag, its numbers that are neither places nor lengths, and the texts and bytes that it names with their lengths.
use Rattle.std.specs.Prelude.{ℕ, List, [], ◌∷◌, map, Option, Some, None}
use Rattle.layout.specs.Spans.{span_bytes}
use Rattle.layout.specs.declared.span.Span.{Span}
use Rattle.table.specs.Rows.{spans_of}
use Rattle.table.specs.Tags.{tag_of}
use Rattle.table.specs.declared.row.Row.{Row}
use Rattle.table.specs.declared.tag.Tag.{Tag}
use Rattle.table.specs.declared.tag.Tag.TheVariants.{PlainContents, PackedContents, Names, Arguments, Unknown, Content, Name, Pair}

pub record Said : Type 0 where
  pub tag : Option Tag
  pub numbers : List ℕ
  pub lengths : List ℕ
  pub texts : List (List ℕ)

abbrev pub says : Option Tag → List ℕ → List ℕ → List (List ℕ) → Said
says tag numbers lengths texts = record { tag = tag; numbers = numbers; lengths = lengths; texts = texts }

-- the numbers of a row of a tag that are neither places nor lengths: header field, count and uncompressed bytes, kind, content size
unfoldable pub numbers_by : Option Tag → Row → List ℕ
numbers_by (Some PlainContents) r = r.a ∷ []
numbers_by (Some PackedContents) r = r.a ∷ r.d ∷ r.e ∷ []
numbers_by (Some Names) r = []
numbers_by (Some Arguments) r = []
numbers_by (Some Unknown) r = r.a ∷ []
numbers_by (Some Content) r = []
numbers_by (Some Name) r = r.c ∷ []
numbers_by (Some Pair) r = []
numbers_by None r = []

-- what a row says over a payload and an edit text
unfoldable pub said : List ℕ → List ℕ → Row → Said
said payload edit r =
    says (tag_of r.tag) (numbers_by (tag_of r.tag) r) (map (λ (s : Span). s.count) (spans_of r)) (map (span_bytes payload edit) (spans_of r))
