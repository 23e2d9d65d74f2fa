-- Measuring rows comes to the length of what writing gives, or to its refusal: rows that obey the rules say records in order, and count as these do.
-- Assumes nothing.
use Rattle.std.specs.Prelude.{Option, Some, None, Err, Ok}
use Prim.Native.Nat.{ℕ}
use mathlib.Core.Bool.{Bool, true, false, cond, and-eq-true_iff}
use mathlib.Core.List.{List, [], ◌∷◌}
use mathlib.Core.Path.{◌≡◌, refl, sym, ap, ◌∙◌}
use lib.ListN.{length}
use Rattle.layout.specs.Checked.{Checked, check}
use Rattle.layout.specs.declared.refusal.Refusal.{Refusal}
use Rattle.layout.specs.declared.refusal.Refusal.TheVariants.{WontFit}
use Rattle.layout.proofs.Checked.{after-fault, after-good, then-good}
use Rattle.table.specs.Rows.{bytes_span, text_span, value_span, spans_by}
use Rattle.table.specs.Tags.{tag_of, same_tag, opens_section}
use Rattle.table.specs.declared.row.Row.{Row}
use Rattle.table.specs.declared.tag.Tag.{Tag}
use Rattle.table.specs.declared.tag.Tag.TheVariants.{PlainContents, PackedContents, Names, Arguments, Unknown, Content, Name, Pair}
use Rattle.format.specs.Encoding.{encode, within_limits}
use Rattle.format.specs.Records.{Record, text, is_placed, in_order, sections}
use Rattle.format.specs.Resolve.{sections_of, resolve}
use Rattle.format.specs.Rules.{tag_rule, check_row, check_rows}
use Rattle.format.specs.Said.{said}
use Rattle.format.specs.Sections.{Section}
use Rattle.format.specs.Write.{written}
use Rattle.format.proofs.RowRules.{Ruled, RowOk, first-ok, rows_ok}
use Rattle.format.proofs.SaidSections.{row_record, row_records, record-tag, sections-said}
use Rattle.sizes.specs.Measure.{sized, opened, added, advance, nothing, finish, measure_records}
use Rattle.sizes.specs.declared.sizes.Sizes.{Sizes}
use Rattle.sizes.proofs.MeasuredRecords.{next-tag, measured-records}
use Rattle.sizes.proofs.Sized.{sized-check}
use Rattle.rows.specs.Measure.{count_row, measure_from}

-- a row that obeys the rule of its tag stands where a record of that tag may
is-placed : (previous : Option Tag) (r : Row) (t : Tag) → Ruled previous (Some t) r → is_placed previous t ≡ true
unfolding tag_rule same_tag
is-placed previous r PlainContents h = refl
is-placed previous r PackedContents h = refl
is-placed previous r Names h = refl
is-placed previous r Arguments h = refl
is-placed previous r Unknown h = refl
is-placed previous r Content h = ((and-eq-true_iff _ _).0 h).0
is-placed previous r Name h = ((and-eq-true_iff _ _).0 h).0
is-placed previous r Pair h = ((and-eq-true_iff _ _).0 h).0

-- what was counted has the row's tag
row-tag : (m : Sizes) (r : Row) → (count_row m r).previous ≡ tag_of r.tag
unfolding count_row
row-tag m r = go (opens_section (tag_of r.tag))
  where
    go :
        (b : Bool) →
        (cond b (advance m (tag_of r.tag) (bytes_span r).count 0) (advance m (tag_of r.tag) (text_span r).count (value_span r).count)).previous ≡ tag_of r.tag
    go true = next-tag m (tag_of r.tag) _ _
    go false = next-tag m (tag_of r.tag) _ _

module _ (payload edit : List ℕ) where
  -- what a row names is as long as it says, so it counts as its record
  row_counts :
      (m : Sizes) (r : Row) (t : Option Tag) →
      tag_of r.tag ≡ t →
      RowOk payload edit t r →
      (let q : Record = row_record payload edit r in
      count_row m r ≡ advance m (Some q.tag) (length (text 0 q)) (length (text 1 q)))
  unfolding count_row advance opened added said spans_by
  row_counts m r (Some PlainContents) e ok = rw e
  row_counts m r (Some PackedContents) e ok = rw (e, ok)
  row_counts m r (Some Names) e ok = rw e
  row_counts m r (Some Arguments) e ok = rw e
  row_counts m r (Some Unknown) e ok = rw (e, ok.2)
  row_counts m r (Some Content) e ok = rw (e, ok.whole)
  row_counts m r (Some Name) e ok = rw (e, ok.whole)
  row_counts m r (Some Pair) e ok = rw (e, ok.0.whole, ok.1.whole)
  row_counts m r None e ok = absurd ok

  in_order_lem : (previous : Option Tag) (rows : List Row) → check_rows payload edit previous rows ≡ Ok tt → in_order previous (row_records payload edit rows) ≡ true
  unfolding in_order
  in_order_lem previous [] e = refl
  in_order_lem previous (r ∷ rows) e =
      let (rule, ok, rest) = first-ok payload edit previous r rows e in
      let tagged = record-tag payload edit r ok in
      let own : Tag = (row_record payload edit r).tag in
      rw (is-placed previous r own (rw tagged at rule), in_order_lem (Some own) rows (rw tagged at rest))

  rows-measured : (rows : List Row) (m : Sizes) → check_rows payload edit m.previous rows ≡ Ok tt → measure_from payload edit m rows ≡ finish (measure_records m (row_records payload edit rows))
  unfolding check_rows measure_from measure_records
  rows-measured [] m e = refl
  rows-measured (r ∷ rows) m e =
      let (rule, ok, rest) = first-ok payload edit m.previous r rows e in
      let (done, first, others) = then-good _ _ _ e in
      after-good _ _ first ∙
      rows-measured rows (count_row m r) (rw (row-tag m r) rest) ∙
      ap (λ (next : Sizes). finish (measure_records next (row_records payload edit rows))) (row_counts m r (tag_of r.tag) refl ok)

  rows-refused : (refusal : Refusal) (rows : List Row) (m : Sizes) → check_rows payload edit m.previous rows ≡ Err refusal → measure_from payload edit m rows ≡ Err refusal
  unfolding check_rows measure_from
  rows-refused refusal [] m e = cc
  rows-refused refusal (r ∷ rows) m e = go (check_row payload edit m.previous r) refl (rows-refused refusal rows (count_row m r))
    where
      go :
          (c : Checked (Unit {0})) →
          check_row payload edit m.previous r ≡ c →
          (check_rows payload edit (count_row m r).previous rows ≡ Err refusal → measure_from payload edit (count_row m r) rows ≡ Err refusal) →
          measure_from payload edit m (r ∷ rows) ≡ Err refusal
      go (Err f) q others =
          let found : ◌≡◌ {A = Checked (Unit {0})} (Err f) (Err refusal) = sym (after-fault _ _ q) ∙ e in
          let same : f ≡ refusal = cc in
          after-fault _ _ q ∙ ap Err same
      go (Ok tt) q others = after-good _ _ q ∙ others (rw (row-tag m r) (sym (after-good _ _ q) ∙ e))

  pub measured-is-written : (rows : List Row) → (measure_from payload edit nothing rows) ≡ sized (written payload edit rows)
  unfolding written resolve
  measured-is-written rows = go (check_rows payload edit None rows) refl
    where
      ss : List Section
      ss = sections_of payload edit rows

      go : (c : Checked (Unit {0})) → check_rows payload edit None rows ≡ c → (measure_from payload edit nothing rows) ≡ sized (written payload edit rows)
      go (Err refusal) e = rows-refused refusal rows nothing e ∙ sym (ap sized (after-fault _ _ (after-fault _ _ e)))
      go (Ok done) e =
          let is : written payload edit rows ≡ check (within_limits ss) WontFit (λ _. Ok (encode ss)) = after-good _ _ (after-good _ _ e) in
          let said : ss ≡ sections (row_records payload edit rows) = sections-said payload edit rows (rows_ok payload edit None rows e) in
          let counted = rows-measured rows nothing e ∙ measured-records (row_records payload edit rows) (in_order_lem None rows e) in
          counted ∙ rw (← said) (sized-check (within_limits ss) WontFit (encode ss)) ∙ sym (ap sized is)

-- a table that holds whole rows is measured as they are written
pub ruleset measured = (measured-is-written)
