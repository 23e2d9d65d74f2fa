-- The rules of rows: what a row of each tag may hold, and what it may follow.
use Rattle.std.specs.Prelude.{ℕ, Bool, true, false, cond, ◌&&◌, List, [], ◌∷◌, eqb, Option, Some, None, Ok}
use Rattle.wire.specs.Padding.{all_zero}
use Rattle.layout.specs.Checked.{Checked, check, then}
use Rattle.layout.specs.Kinds.{unknown_rule}
use Rattle.layout.specs.Spans.{inside}
use Rattle.layout.specs.declared.span.Span.{Span}
use Rattle.layout.specs.TextCheck.{check_span}
use Rattle.layout.specs.declared.refusal.Refusal.TheVariants.{BadRow}
use Rattle.table.specs.Rows.{spans_of}
use Rattle.table.specs.Tags.{tag_of, follows, opens_section}
use Rattle.table.specs.declared.row.Row.{Row}
use Rattle.table.specs.declared.tag.Tag.{Tag}
use Rattle.table.specs.declared.tag.Tag.TheVariants.{PlainContents, PackedContents, Names, Arguments, Unknown, Content, Name, Pair}

-- The rule of a tag, its spans apart; `previous` is the tag of the row before, and None before the first. Numbers that a tag gives no meaning
-- are 0. A row of no tag has no rule that it could obey.
unfoldable pub tag_rule : Option Tag → Option Tag → Row → Bool
tag_rule (Some PlainContents) previous r = eqb r.side 0 && all_zero (r.b ∷ r.c ∷ r.d ∷ r.e ∷ [])
tag_rule (Some PackedContents) previous r = true
tag_rule (Some Names) previous r = eqb r.side 0 && all_zero (r.a ∷ r.b ∷ r.c ∷ r.d ∷ r.e ∷ [])
tag_rule (Some Arguments) previous r = eqb r.side 0 && all_zero (r.a ∷ r.b ∷ r.c ∷ r.d ∷ r.e ∷ [])
tag_rule (Some Unknown) previous r = unknown_rule r.a r.c && all_zero (r.d ∷ r.e ∷ [])
tag_rule (Some Content) previous r = follows Content previous && all_zero (r.c ∷ r.d ∷ r.e ∷ [])
tag_rule (Some Name) previous r = follows Name previous && all_zero (r.d ∷ r.e ∷ [])
tag_rule (Some Pair) previous r = follows Pair previous && all_zero (r.e ∷ [])
tag_rule None previous r = false

-- the texts that a row names, in order: what an entry names is text, and what a section's own row names is bytes
abbrev pub texts_of : Row → List Span
texts_of r = cond (opens_section (tag_of r.tag)) [] (spans_of r)

module _ (payload edit : List ℕ) where
  unfoldable pub all_inside : List Span → Bool
  all_inside [] = true
  all_inside (s ∷ spans) = inside payload edit s && all_inside spans

  -- whether a row may stand after a row of the previous tag: its tag's rule, and its texts and bytes inside their sides
  unfoldable pub obeys : Option Tag → Row → Bool
  obeys previous r = tag_rule (tag_of r.tag) previous r && all_inside (spans_of r)

  -- texts in order: the first fault counts
  unfoldable pub check_texts : List Span → Checked (Unit {0})
  check_texts [] = Ok tt
  check_texts (s ∷ spans) = then (check_span payload edit s) (λ _. check_texts spans)

  -- a row after a row of the previous tag: its rule, then its texts
  unfoldable pub check_row : Option Tag → Row → Checked (Unit {0})
  check_row previous r =
      check (obeys previous r) BadRow (λ _.
      check_texts (texts_of r))

  -- rows in order, the first after a row of the previous tag: the first fault counts
  unfoldable pub check_rows : Option Tag → List Row → Checked (Unit {0})
  check_rows previous [] = Ok tt
  check_rows previous (r ∷ rows) =
      then (check_row previous r) (λ _.
      check_rows (tag_of r.tag) rows)
