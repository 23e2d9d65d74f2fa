-- Rows that obey the rules, section by section: what a section's row begins, and where the next section's row stands.
-- Assumes nothing.
use Rattle.std.specs.Prelude.{Ok, is_ok, Option, Some, None}
use Prim.Native.Nat.{ℕ, suc, ◌+◌, ◌≤◌, ◌<◌}
use mathlib.Core.Bool.{Bool, true, false, and-eq-true_iff}
use mathlib.Core.List.{List, [], ◌∷◌, ◌++◌, flat_map}
use mathlib.Core.Path.{◌≡◌, refl, sym, ap, ◌∙◌, subst}
use native.Mathlib.Numerals.{add-one}
use native.Mathlib.Omega.{arith}
use lib.ListN.{length, get_or, drop, length-append}
use lib.Seq.{sets, drop-cons, drop-drop}
use Rattle.wire.proofs.Sets.{sets-append}
use Rattle.layout.specs.Kinds.{kind_number}
use Rattle.layout.proofs.Checked.{is-good}
use Rattle.table.specs.Rows.{no_row}
use Rattle.table.specs.Tags.{tag_of, entry_after, opens_section}
use Rattle.table.specs.declared.row.Row.{Row}
use Rattle.table.specs.declared.tag.Tag.{Tag}
use Rattle.table.specs.declared.tag.Tag.TheVariants as tag
use Rattle.table.proofs.Tags.{section-no-entry}
use Rattle.format.specs.Encoding.{limit, kind_of, encode_section, encode, countable, all_countable}
use Rattle.format.specs.Resolve.{leading, begun, sections_of}
use Rattle.format.specs.Rules.{check_rows}
use Rattle.format.specs.Sections.{Section}
use Rattle.format.specs.Write.{written}
use Rattle.format.proofs.Encoding.{length-encode, limits-good}
use Rattle.format.proofs.RoundTrips.{written-good}
use Rattle.format.proofs.RowRules.{Ruled, entry-own, begins-none, RowOk, rows_ok, first-ok}
use Rattle.format.proofs.RowsByTag.{Every, leading-more, leading-ends}
use Rattle.format.proofs.RowsStand.{Opens}
use Rattle.write.specs.Section.{section_from, entry_count, entries_of, section_at, next_section}

module _ (payload edit : List ℕ) where
  -- a section's row begins one section
  pub begins-one : (t : Option Tag) → opens_section t ≡ true → (r : Row) (rows : List Row) → begun payload edit t r rows ≡ section_from payload edit t r rows ∷ []
  unfolding begun
  begins-one (Some tag.PlainContents) b r rows = refl
  begins-one (Some tag.PackedContents) b r rows = refl
  begins-one (Some tag.Names) b r rows = refl
  begins-one (Some tag.Arguments) b r rows = refl
  begins-one (Some tag.Unknown) b r rows = refl
  begins-one (Some tag.Content) b r rows = cc
  begins-one (Some tag.Name) b r rows = cc
  begins-one (Some tag.Pair) b r rows = cc
  begins-one None b r rows = cc

  -- what stands after the entries that may follow a row
  pub record After (rows rest : List Row) : Type 0 where
    pub same : sections_of payload edit rest ≡ sections_of payload edit rows
    pub begins : Opens rest
    pub previous : Option Tag
    pub checked : check_rows payload edit previous rest ≡ Ok tt

  pub after-entries : (rows : List Row) (previous : Option Tag) → check_rows payload edit previous rows ≡ Ok tt → After rows (drop (entry_count (entry_after previous) rows) rows)
  unfolding sections_of
  after-entries [] previous e = unfold leading in record { same = refl; begins = tt; previous = previous; checked = e }
  after-entries (r ∷ rows) previous e =
      let (rule, ok, rest) = first-ok payload edit previous r rows e in
      go rule (after-entries rows (tag_of r.tag) rest) (opens_section (tag_of r.tag)) refl
    where
      go :
          Ruled previous (tag_of r.tag) r →
          After rows (drop (entry_count (entry_after (tag_of r.tag)) rows) rows) →
          (b : Bool) →
          opens_section (tag_of r.tag) ≡ b →
          After (r ∷ rows) (drop (entry_count (entry_after previous) (r ∷ rows)) (r ∷ rows))
      go rule others true begins =
          let ended : entry_count (entry_after previous) (r ∷ rows) ≡ 0 =
          ap length (leading-ends (entry_after previous) (λ (x : Row). x) r rows (section-no-entry (tag_of r.tag) previous begins)) in
          rw ended (record { same = refl; begins = begins; previous = previous; checked = e })
      go rule others false entry =
          let (own, fixed) = entry-own previous r (tag_of r.tag) entry rule in
          let more : entry_count (entry_after previous) (r ∷ rows) ≡ suc (entry_count (entry_after (tag_of r.tag)) rows) =
          ap length (leading-more (entry_after previous) (λ (x : Row). x) r rows (sym own)) ∙ rw (own, fixed) in
          let none : begun payload edit (tag_of r.tag) r rows ++ sections_of payload edit rows ≡ sections_of payload edit rows =
          ap (λ (l : List Section). l ++ sections_of payload edit rows) (begins-none payload edit (tag_of r.tag) entry r rows) in
          rw more (record { same = others.same ∙ sym none; begins = others.begins; previous = others.previous; checked = others.checked })

  -- rows that obey the rules have a tag
  none-none : (rows : List Row) → Every (RowOk payload edit) rows → entry_count None rows ≡ 0
  none-none [] oks = unfold leading in refl
  none-none (r ∷ rows) (ok, oks) = ap length (leading-ends None (λ (x : Row). x) r rows (λ q. subst (λ (t : Option Tag). RowOk payload edit t r) q ok))

  -- a section's entries are those that may follow its row
  entries-follow : (t : Option Tag) → opens_section t ≡ true → (rows : List Row) → Every (RowOk payload edit) rows → entries_of t rows ≡ entry_count (entry_after t) rows
  entries-follow (Some tag.PlainContents) b rows oks = refl
  entries-follow (Some tag.PackedContents) b rows oks = sym (none-none rows oks)
  entries-follow (Some tag.Names) b rows oks = refl
  entries-follow (Some tag.Arguments) b rows oks = refl
  entries-follow (Some tag.Unknown) b rows oks = sym (none-none rows oks)
  entries-follow (Some tag.Content) b rows oks = cc
  entries-follow (Some tag.Name) b rows oks = cc
  entries-follow (Some tag.Pair) b rows oks = cc
  entries-follow None b rows oks = cc

  -- an unknown section's kind fits its field
  kind_fits : (t : Option Tag) → opens_section t ≡ true → (r : Row) (rows : List Row) → RowOk payload edit t r → kind_number (kind_of (section_from payload edit t r rows)) ≤ 65535
  unfolding kind_of begun
  kind_fits (Some tag.PlainContents) b r rows ok = omega arith
  kind_fits (Some tag.PackedContents) b r rows ok = omega arith
  kind_fits (Some tag.Names) b r rows ok = omega arith
  kind_fits (Some tag.Arguments) b r rows ok = omega arith
  kind_fits (Some tag.Unknown) b r rows ok = ok.1
  kind_fits (Some tag.Content) b r rows ok = cc
  kind_fits (Some tag.Name) b r rows ok = cc
  kind_fits (Some tag.Pair) b r rows ok = cc
  kind_fits None b r rows ok = cc

  -- ---- what is left to write

  -- the rows from an index on: they begin with a section's row, they obey the rules, and their sections fit, from a place on
  pub record Left (rows : List Row) (index at : ℕ) : Type 0 where
    pub begins : Opens (drop index rows)
    pub previous : Option Tag
    pub checked : check_rows payload edit previous (drop index rows) ≡ Ok tt
    pub fit : all_countable (sections_of payload edit (drop index rows)) ≡ true
    pub small : at + length (flat_map encode_section (sections_of payload edit (drop index rows))) ≤ limit

  -- the first section of what is left, and what is left after it
  pub record Next (rows : List Row) (index at : ℕ) : Type 0 where
    pub begins : opens_section (tag_of (get_or rows index no_row).tag) ≡ true
    pub kind : kind_number (kind_of (section_at payload edit rows index)) ≤ 65535
    pub fit : countable (section_at payload edit rows index) ≡ true
    pub small : at + length (encode_section (section_at payload edit rows index)) ≤ limit
    pub sections : sections_of payload edit (drop index rows) ≡ section_at payload edit rows index ∷ sections_of payload edit (drop (next_section rows index) rows)
    pub left : Left rows (next_section rows index) (at + length (encode_section (section_at payload edit rows index)))

  pub next-section : (rows : List Row) (index at : ℕ) → index < length rows → Left rows index at → Next rows index at
  unfolding sections_of flat_map all_countable
  next-section rows index at inside left =
      let r : Row = get_or rows index no_row in
      let rest : List Row = drop (index + 1) rows in
      let these : drop index rows ≡ r ∷ rest = drop-cons rows index no_row inside ∙ rw add-one in
      let s : Section = section_at payload edit rows index in
      let t : Option Tag = tag_of r.tag in
      let low : opens_section t ≡ true = rw these at left.begins in
      let (rule, ok, others) = first-ok payload edit left.previous r rest (rw these at left.checked) in
      let after = after-entries rest t others in
      let n : ℕ = entry_count (entry_after t) rest in
      let next : ℕ = next_section rows index in
      let count : entries_of t rest ≡ n = entries-follow t low rest (rows_ok payload edit t rest others) in
      let there : drop next rows ≡ drop n rest = rw count (sym (drop-drop n (index + 1) rows)) in
      let ss : List Section = sections_of payload edit (drop next rows) in
      let onward : sections_of payload edit rest ≡ ss = sym after.same ∙ ap (λ (l : List Row). sections_of payload edit l) (sym there) in
      let all : sections_of payload edit (drop index rows) ≡ s ∷ ss =
      ap (λ (l : List Row). sections_of payload edit l) these ∙
      ap (λ (l : List Section). l ++ sections_of payload edit rest) (begins-one t low r rest) ∙
      ap (λ (l : List Section). s ∷ l) onward in
      let (this-fits, others-fit) = (and-eq-true_iff (countable s) (all_countable ss)).0 (rw all at left.fit) in
      let room : at + length (flat_map encode_section (s ∷ ss)) ≤ limit = rw all at left.small in
      let sizes = length-append (encode_section s) (flat_map encode_section ss) in
      record {
        begins = low;
        kind = kind_fits t low r rest ok;
        fit = this-fits;
        small = omega arith;
        sections = all;
        left = record {
          begins = rw there after.begins;
          previous = after.previous;
          checked = rw there after.checked;
          fit = others-fit;
          small = omega arith;
        };
      }

  -- what is stored of the first section, and then of the others
  pub next-stored :
      (rows : List Row) (index at : ℕ) →
      Next rows index at →
      (output target : List ℕ) →
      sets output at (flat_map encode_section (sections_of payload edit (drop index rows))) ≡ target →
      (let bytes : List ℕ = encode_section (section_at payload edit rows index) in
      sets (sets output at bytes) (at + length bytes) (flat_map encode_section (sections_of payload edit (drop (next_section rows index) rows))) ≡ target)
  unfolding flat_map
  next-stored rows index at next output target e =
      let bytes : List ℕ = encode_section (section_at payload edit rows index) in
      let others : List ℕ = flat_map encode_section (sections_of payload edit (drop (next_section rows index) rows)) in
      sym (sets-append bytes others output at) ∙ ap (λ (l : List Section). sets output at (flat_map encode_section l)) (sym next.sections) ∙ e

  -- all sections are left at first, where the rows can be written
  pub all_left :
      (rows : List Row) →
      is_ok (written payload edit rows) ≡ true →
      Left rows 0 8 × (length (sections_of payload edit rows) ≤ 65535) × (length (encode (sections_of payload edit rows)) ≤ limit)
  all_left rows e =
      let (q, found) = is-good (written payload edit rows) e in
      let told = written-good payload edit q rows found in
      let ss : List Section = sections_of payload edit rows in
      let (few, fit, small) = limits-good ss told.fit in
      let first = after-entries rows None told.checked in
      let none = none-none rows (rows_ok payload edit None rows told.checked) in (
        record {
          begins = rw none at first.begins;
          previous = None;
          checked = told.checked;
          fit = fit;
          small = omega (arith, length-encode ss);
        },
        few,
        small,
      )
