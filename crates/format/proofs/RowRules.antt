-- What the rules say of rows that obey them: of each row by itself, and of what it follows.
-- Assumes nothing.
use Rattle.std.specs.Prelude.{Ok, Option, Some, None}
use Prim.Native.Nat.{ℕ, ◌%◌, ◌≤◌}
use mathlib.Core.Bool.{true, false, cond, and-eq-true_iff}
use mathlib.Core.List.{List, [], ◌∷◌}
use mathlib.Core.Path.{◌≡◌, refl}
use native.Mathlib.Omega.{arith}
use borrow.Author.Tests.{leb-true, eqb-true}
use lib.ListN.{length, length-drop}
use lib.Seq.{length-take-le}
use Rattle.layout.specs.Spans.{side_of, span_bytes, inside}
use Rattle.layout.specs.declared.span.Span.{Span}
use Rattle.layout.specs.TextCheck.{check_span}
use Rattle.layout.proofs.Checked.{check-good, then-good}
use Rattle.table.specs.Rows.{bytes_span, text_span, value_span, spans_by}
use Rattle.table.specs.Tags.{tag_of, entry_after, opens_section}
use Rattle.table.specs.declared.row.Row.{Row}
use Rattle.table.specs.declared.tag.Tag.{Tag}
use Rattle.table.specs.declared.tag.Tag.TheVariants.{PlainContents, PackedContents, Names, Arguments, Unknown, Content, Name, Pair}
use Rattle.table.proofs.Tags.{tag_same}
use Rattle.format.specs.Resolve.{begun}
use Rattle.format.specs.Rules.{tag_rule, all_inside, obeys, check_texts, check_row, check_rows}
use Rattle.format.specs.WellFormed.{Text}
use Rattle.format.proofs.RowsByTag.{Every}
use Rattle.format.proofs.TextsOk.{text-ok}

-- a row of a tag obeys the rule of the tag after a row of the previous tag
abbrev pub Ruled : Option Tag → Option Tag → Row → Type 0
Ruled previous t r = tag_rule t previous r ≡ true

-- a row that begins no section is an entry, and stands where an entry of its tag may; after it others of its tag may
pub entry-own : (previous : Option Tag) (r : Row) (t : Option Tag) → opens_section t ≡ false → Ruled previous t r → (entry_after previous ≡ t) × (entry_after t ≡ t)
unfolding tag_rule
entry-own previous r (Some PlainContents) b h = absurd cc
entry-own previous r (Some PackedContents) b h = absurd cc
entry-own previous r (Some Names) b h = absurd cc
entry-own previous r (Some Arguments) b h = absurd cc
entry-own previous r (Some Unknown) b h = absurd cc
entry-own previous r (Some Content) b h = (tag_same (entry_after previous) (Some Content) (simp and-eq-true_iff at h).0, refl)
entry-own previous r (Some Name) b h = (tag_same (entry_after previous) (Some Name) (simp and-eq-true_iff at h).0, refl)
entry-own previous r (Some Pair) b h = (tag_same (entry_after previous) (Some Pair) (simp and-eq-true_iff at h).0, refl)
entry-own previous r None b h = absurd cc

module _ (payload edit : List ℕ) where
  pub begins-none : (t : Option Tag) → opens_section t ≡ false → (r : Row) (rows : List Row) → begun payload edit t r rows ≡ []
  unfolding begun
  begins-none (Some PlainContents) b r rows = cc
  begins-none (Some PackedContents) b r rows = cc
  begins-none (Some Names) b r rows = cc
  begins-none (Some Arguments) b r rows = cc
  begins-none (Some Unknown) b r rows = cc
  begins-none (Some Content) b r rows = refl
  begins-none (Some Name) b r rows = refl
  begins-none (Some Pair) b r rows = refl
  begins-none None b r rows = refl

  -- ---- a row by itself

  -- a span whose bytes are all there
  abbrev pub Whole : Span → Type 0
  Whole s = length (span_bytes payload edit s) ≡ s.count

  pub record WholeText (s : Span) : Type 0 where
    pub whole : Whole s
    pub text : Text (span_bytes payload edit s)

  -- what a row of a tag is where it obeys the rules and its texts pass
  abbrev pub RowOk : Option Tag → Row → Type 0
  RowOk (Some PlainContents) r = Unit {0}
  RowOk (Some PackedContents) r = Whole (bytes_span r)
  RowOk (Some Names) r = Unit {0}
  RowOk (Some Arguments) r = Unit {0}
  RowOk (Some Unknown) r = (3 ≤ r.a) × (r.a ≤ 65535) × Whole (bytes_span r) × (r.c % 4 ≡ 0)
  RowOk (Some Content) r = WholeText (text_span r)
  RowOk (Some Name) r = WholeText (text_span r)
  RowOk (Some Pair) r = WholeText (text_span r) × WholeText (value_span r)
  RowOk None r = ⊥

  is_whole : (s : Span) → inside payload edit s ≡ true → Whole s
  is_whole s h =
      let (known, within) = simp and-eq-true_iff at h in
      length-take-le s.count _ (omega (arith, leb-true, length-drop s.start (side_of s.side payload edit)))

  is-text : (s : Span) → inside payload edit s ≡ true → check_span payload edit s ≡ Ok tt → WholeText s
  is-text s h e = record { whole = is_whole s h; text = text-ok (side_of s.side payload edit) s.start s.count e }

  inside-first : (s : Span) (spans : List Span) → all_inside payload edit (s ∷ spans) ≡ true → (inside payload edit s ≡ true) × (all_inside payload edit spans ≡ true)
  unfolding all_inside
  inside-first s spans h = (and-eq-true_iff (inside payload edit s) (all_inside payload edit spans)).0 h

  is_ok :
      (previous : Option Tag) (r : Row) (t : Option Tag) →
      Ruled previous t r →
      all_inside payload edit (spans_by t r) ≡ true →
      check_texts payload edit (cond (opens_section t) [] (spans_by t r)) ≡ Ok tt →
      RowOk t r
  unfolding tag_rule spans_by check_texts
  is_ok previous r (Some PlainContents) h within e = tt
  is_ok previous r (Some PackedContents) h within e = is_whole (bytes_span r) (inside-first _ _ within).0
  is_ok previous r (Some Names) h within e = tt
  is_ok previous r (Some Arguments) h within e = tt
  is_ok previous r (Some Unknown) h within e =
      let told = simp and-eq-true_iff at h in
      (leb-true _ _ told.0.0.0, leb-true _ _ told.0.0.1, is_whole (bytes_span r) (inside-first _ _ within).0, eqb-true _ _ told.0.1)
  is_ok previous r (Some Content) h within e = is-text (text_span r) (inside-first _ _ within).0 (then-good _ _ _ e).1
  is_ok previous r (Some Name) h within e = is-text (text_span r) (inside-first _ _ within).0 (then-good _ _ _ e).1
  is_ok previous r (Some Pair) h within e =
      let (name, others) = inside-first _ _ within in
      let first = then-good _ _ _ e in
      let second = then-good _ _ _ first.2 in
      (is-text (text_span r) name first.1, is-text (value_span r) (inside-first _ _ others).0 second.1)
  is_ok previous r None h within e = cc

  -- ---- rows

  pub first-ok :
      (previous : Option Tag) (r : Row) (rows : List Row) →
      check_rows payload edit previous (r ∷ rows) ≡ Ok tt →
      Ruled previous (tag_of r.tag) r × RowOk (tag_of r.tag) r × (check_rows payload edit (tag_of r.tag) rows ≡ Ok tt)
  unfolding check_rows check_row obeys
  first-ok previous r rows e =
      let (done, first, rest) = then-good _ _ _ e in
      let (obeyed, passed) = check-good _ _ _ _ first in
      let (rule, within) = (and-eq-true_iff _ _).0 obeyed in
      (rule, is_ok previous r (tag_of r.tag) rule within passed, rest)

  pub rows_ok : (previous : Option Tag) (rows : List Row) → check_rows payload edit previous rows ≡ Ok tt → Every RowOk rows
  rows_ok previous [] e = tt
  rows_ok previous (r ∷ rows) e =
      let (rule, here, rest) = first-ok previous r rows e in
      (here, rows_ok (tag_of r.tag) rows rest)
