-- What rows that obey the rules say, places apart, is a record for each, and the records' sections are those of the rows. So what rows say decides what is written from
-- them.
-- Assumes nothing.
use Rattle.std.specs.Prelude.{Option, Some, None, unwrap_or}
use Prim.Native.Nat.{ℕ}
use mathlib.Core.List.{List, [], ◌∷◌, ◌++◌, map}
use mathlib.Core.Path.{◌≡◌, refl, sym, ap, ap₂, ◌∙◌}
use Rattle.table.specs.Rows.{spans_by}
use Rattle.table.specs.Tags.{tag_of}
use Rattle.table.specs.declared.row.Row.{Row}
use Rattle.table.specs.declared.tag.Tag.{Tag}
use Rattle.table.specs.declared.tag.Tag.TheVariants as tag
use Rattle.table.proofs.Tags.{tag-discrete}
use Rattle.format.specs.Encoding.{encode}
use Rattle.format.specs.Records as records
use Rattle.format.specs.Records.{Record, text, sections}
use Rattle.format.specs.Resolve.{leading, content_of, name_of, pair_of, begun, sections_of}
use Rattle.format.specs.RoundTrips.{SaidDecides}
use Rattle.format.specs.Said.{Said, numbers_by, said}
use Rattle.format.specs.Sections.{Section}
use Rattle.format.proofs.RecordsByTag as by-tag
use Rattle.format.proofs.RoundTrips.{written-good}
use Rattle.format.proofs.RowRules.{RowOk, rows_ok}
use Rattle.format.proofs.RowsByTag.{Every, leading-more, leading-ends}

-- The record of what a row says: a record's texts have their lengths. A row of no tag, which no rule allows, gets that of a pair, which begins no
-- section either.
abbrev pub record_said : Said → Record
record_said s = records.says (unwrap_or s.tag tag.Pair) s.numbers s.texts

module _ (payload edit : List ℕ) where
  abbrev pub row_record : Row → Record
  row_record r = record_said (said payload edit r)

  abbrev pub row_records : List Row → List Record
  row_records rows = map record_said (map (said payload edit) rows)

  pub record-tag : (r : Row) → RowOk payload edit (tag_of r.tag) r → tag_of r.tag ≡ Some (row_record r).tag
  unfolding said
  record-tag r ok = go (tag_of r.tag) ok
    where
      go : (o : Option Tag) → RowOk payload edit o r → o ≡ Some (unwrap_or o tag.Pair)
      go None k = absurd k
      go (Some t) k = refl

  leading-said :
      {A : Type 0} (t : Tag) (f : Row → A) (g : Record → A) →
      ((r : Row) → tag_of r.tag ≡ Some t → f r ≡ g (row_record r)) →
      (rows : List Row) → Every (RowOk payload edit) rows → leading (Some t) f rows ≡ records.leading (Some t) g (row_records rows)
  leading-said t f g same [] oks = unfold leading records.leading in refl
  leading-said t f g same (r ∷ rows) (ok, oks) =
      let rest = leading-said t f g same rows oks in
      let tagged = record-tag r ok in
      elim (tag-discrete (tag_of r.tag) (Some t)) [
        | yes q ↦ rw (leading-more (Some t) f r rows q, by-tag.leading-more (Some t) g (row_record r) (row_records rows) (sym tagged ∙ q), same r q, rest)
        | no n ↦ rw (leading-ends (Some t) f r rows n, by-tag.leading-ends (Some t) g (row_record r) (row_records rows) (λ e. n (tagged ∙ e)))
      ]

  begun-said :
      (r : Row) (rows : List Row) →
      Every (RowOk payload edit) rows →
      (t : Option Tag) →
      tag_of r.tag ≡ t →
      begun payload edit t r rows ≡ records.begun (unwrap_or t tag.Pair) (row_record r) (row_records rows)
  unfolding begun records.begun said numbers_by spans_by
  begun-said r rows oks (Some tag.PlainContents) q = rw (q, leading-said tag.Content (content_of payload edit) (text 0) (λ r e. rw e) rows oks)
  begun-said r rows oks (Some tag.PackedContents) q = rw q
  begun-said r rows oks (Some tag.Names) q = rw (leading-said tag.Name (name_of payload edit) records.name_of (λ r e. rw e) rows oks)
  begun-said r rows oks (Some tag.Arguments) q = rw (leading-said tag.Pair (pair_of payload edit) records.pair_of (λ r e. rw e) rows oks)
  begun-said r rows oks (Some tag.Unknown) q = rw q
  begun-said r rows oks (Some tag.Content) q = refl
  begun-said r rows oks (Some tag.Name) q = refl
  begun-said r rows oks (Some tag.Pair) q = refl
  begun-said r rows oks None q = refl

  pub sections-said : (rows : List Row) → Every (RowOk payload edit) rows → sections_of payload edit rows ≡ sections (row_records rows)
  unfolding sections_of sections said
  sections-said [] oks = refl
  sections-said (r ∷ rows) (ok, oks) = ap₂ (λ (a b : List Section). a ++ b) (begun-said r rows oks (tag_of r.tag) refl) (sections-said rows oks)

pub said-decides : SaidDecides
said-decides p₁ e₁ q₁ rows₁ p₂ e₂ q₂ rows₂ w₁ w₂ same =
    let told₁ = written-good p₁ e₁ q₁ rows₁ w₁ in
    let told₂ = written-good p₂ e₂ q₂ rows₂ w₂ in
    let of-said : List Said → List Section = λ ss. sections (map record_said ss) in
    let alike : sections_of p₁ e₁ rows₁ ≡ sections_of p₂ e₂ rows₂ =
    sections-said p₁ e₁ rows₁ (rows_ok p₁ e₁ None rows₁ told₁.checked) ∙
    ap of-said same ∙
    sym (sections-said p₂ e₂ rows₂ (rows_ok p₂ e₂ None rows₂ told₂.checked)) in
    sym told₁.is ∙ ap encode alike ∙ told₂.is
