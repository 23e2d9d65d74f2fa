-- The rows of sections that stand in a payload say just these sections, and obey the rules of rows, whatever the edit text.
-- Assumes nothing.
use Rattle.std.specs.Prelude.{Ok, Option, Some}
use Prim.Native.Nat.{ℕ, ◌+◌, ◌%◌, ◌≤◌}
use mathlib.Core.Bool.{true, false}
use mathlib.Core.List.{List, [], ◌∷◌, ◌++◌, map, flat_map, map-id}
use mathlib.Core.Path.{◌≡◌, refl, ap, ap₂, ◌∙◌}
use native.Mathlib.Omega.{arith}
use borrow.Author.Tests.{le-leb, eq-eqb}
use lib.Dec.{leb}
use lib.ListN.{length, length-append}
use Rattle.wire.specs.Length.{wire_size}
use Rattle.wire.specs.Padding.{all_zero}
use Rattle.wire.proofs.PaddingLaws.{le-aligned}
use Rattle.layout.specs.Spans.{side_of}
use Rattle.layout.specs.TextCheck.{check_text}
use Rattle.table.specs.Rows.{spans_by}
use Rattle.table.specs.Tags.{tag_of, entry_after, opens_section}
use Rattle.table.specs.declared.row.Row.{Row}
use Rattle.table.specs.declared.tag.Tag.{Tag}
use Rattle.table.specs.declared.tag.Tag.TheVariants as tag
use Rattle.table.proofs.Tags.{same_tag_lem}
use Rattle.layout.proofs.Checked.{check-passes, then-passes}
use Rattle.format.specs.Encoding.{u32, terminate, content_entry, name_entry, pair_entry, stored_bytes, encode_section}
use Rattle.format.specs.Resolve.{leading, content_of, name_of, pair_of, begun, sections_of}
use Rattle.format.specs.Rules.{tag_rule, all_inside, obeys, texts_of, check_texts, check_row, check_rows}
use Rattle.format.specs.Sections.{Name, Pair, Section, plain, packed, names, arguments, unknown}
use Rattle.format.specs.WellFormed.{All, Text, NameOk, PairOk, WellFormed}
use Rattle.format.proofs.Encoding.{length-content_entry, length-name_entry, length-pair_entry}
use Rattle.format.proofs.EntryBytes.{content-is, name-is, name-header, entry-text}
use Rattle.format.proofs.PlacedRows.{content_placed, sized_placed, name_placed, pair_placed, rows_of_run, rows_of_section, rows_from}
use Rattle.format.proofs.RowsByTag.{leading-more, leading-ends}
use Rattle.format.proofs.SectionBytes.{start, filled, length-section, section-stored}
use Rattle.format.proofs.Stands.{Stands, stands-first, stands-next, stands-part, stands-within}
use Rattle.format.proofs.TextsOk.{ok-text}

-- ---- where the texts of items stand

module _ (p : List ℕ) (at : ℕ) where
  content-text : (text : List ℕ) → Stands p at (content_entry text) → Stands p (at + 12) text
  content-text text s = entry-text 12 [] refl p at text (rw content-is at s)

  name-text : (x : Name) → Stands p at (name_entry x) → Stands p (at + 16) x.text
  name-text x s = entry-text 16 (u32 x.content_size) (name-header x.content_size) p at x.text (rw name-is at s)

  pair-texts : (x : Pair) → Stands p at (pair_entry x) → Stands p at x.name × Stands p (at + wire_size (length x.name)) x.value
  unfolding pair_entry
  pair-texts x s =
      let name : List ℕ = x.name in
      let value : List ℕ = x.value in
      let there : at + wire_size (length name) ≡ at + length (terminate name) = omega (arith, length-append name (0 ∷ [])) in (
        stands-first p at name (0 ∷ []) (stands-first p at (terminate name) (terminate value) s),
        stands-first p (at + wire_size (length name)) value (0 ∷ []) (stands-next p at (terminate name) (terminate value) _ there s),
      )

-- ---- what the rows say

-- no rows, or first a section's, which is no entry of a section before
abbrev pub Opens : List Row → Type 0
Opens [] = Unit {0}
Opens (r ∷ rows) = opens_section (tag_of r.tag) ≡ true

none-leads : {A : Type 0} (t : Option Tag) (f : Row → A) → opens_section t ≡ false → (rows : List Row) → Opens rows → leading t f rows ≡ []
none-leads t f entry [] opens = unfold leading in refl
none-leads t f entry (r ∷ rows) opens =
    leading-ends t f r rows (λ q. let other : opens_section (tag_of r.tag) ≡ false = ap opens_section q ∙ entry in cc)

rows-open : (at : ℕ) (ss : List Section) → Opens (rows_from at ss)
unfolding rows_from rows_of_section
rows-open at [] = tt
rows-open at (plain header texts ∷ ss) = refl
rows-open at (packed header stream count uncompressed ∷ ss) = refl
rows-open at (names ns ∷ ss) = refl
rows-open at (arguments xs ∷ ss) = refl
rows-open at (unknown kind bytes ∷ ss) = refl

module _ (p edit : List ℕ) where
  -- the row of an item that stands has a tag that begins no section, and says what g makes of the item
  abbrev pub Says : {A : Type 0} → Option Tag → (A → List ℕ) → (ℕ → A → Row) → (Row → A) → (A → A) → Type 0
  Says {A} t bytes row_at f g =
      (at : ℕ) (a : A) →
      Stands p at (bytes a) →
      (tag_of (row_at at a).tag ≡ t) × (f (row_at at a) ≡ g a) × ((rows : List Row) → begun p edit (tag_of (row_at at a).tag) (row_at at a) rows ≡ [])

  content-says : Says (Some tag.Content) content_entry content_placed (content_of p edit) (λ text. text)
  unfolding begun side_of
  content-says at text s = (refl, stands-part p (at + 12) text (content-text p at text s), λ rows. refl)

  pub name-says : (size : Name → ℕ) → Says (Some tag.Name) name_entry (sized_placed size) (name_of p edit) (λ (x : Name). record { text = x.text; content_size = size x })
  unfolding begun side_of
  name-says size at x s = (refl, rw (stands-part p (at + 16) x.text (name-text p at x s)), λ rows. refl)

  pair-says : Says (Some tag.Pair) pair_entry pair_placed (pair_of p edit) (λ x. x)
  unfolding begun side_of
  pair-says at x s =
      let (name, value) = pair-texts p at x s in
      (refl, rw (stands-part p at x.name name, stands-part p (at + wire_size (length x.name)) x.value value), λ rows. refl)

  -- rows of items before those of sections say the items, and begin no section
  module _ {A : Type 0} (t : Option Tag) (entry : opens_section t ≡ false) (bytes : A → List ℕ) (row_at : ℕ → A → Row) (f : Row → A) (g : A → A) (item : Says t bytes row_at f g) (rest : List Row) (opens : Opens rest) where
    pub run-says :
        (items : List A) (at : ℕ) →
        Stands p at (flat_map bytes items) →
        (leading t f (rows_of_run bytes row_at at items ++ rest) ≡ map g items)
        × (sections_of p edit (rows_of_run bytes row_at at items ++ rest) ≡ sections_of p edit rest)
    unfolding flat_map rows_of_run sections_of
    run-says [] at s = (none-leads t f entry rest opens, refl)
    run-says (a ∷ items) at s =
        let (tagged, same, begins) = item at a (stands-first p at (bytes a) (flat_map bytes items) s) in
        let (leads, others) = run-says items (at + length (bytes a)) (stands-next p at (bytes a) (flat_map bytes items) _ refl s) in (
          leading-more t f (row_at at a) _ tagged ∙ ap₂ (λ (x : A) (l : List A). x ∷ l) same leads,
          rw (begins (rows_of_run bytes row_at (at + length (bytes a)) items ++ rest)) others,
        )

  -- a section's rows before those of others
  module _ (at : ℕ) (rest : List Row) (opens : Opens rest) where
    pub section-says : (s : Section) → Stands p at (encode_section s) → sections_of p edit (rows_of_section at s ++ rest) ≡ s ∷ sections_of p edit rest
    unfolding rows_of_section sections_of begun stored_bytes side_of
    section-says (plain header texts) s =
        let run = section-stored (plain header texts) p at s in
        let (leads, others) = run-says (Some tag.Content) refl content_entry content_placed (content_of p edit) _ content-says rest opens texts (at + 28) run in
        rw (leads, map-id, others)
    section-says (packed header stream count uncompressed) s =
        rw (stands-part p (at + 28) stream (section-stored (packed header stream count uncompressed) p at s))
    section-says (names ns) s =
        let run = section-stored (names ns) p at s in
        let (leads, others) = run-says (Some tag.Name) refl name_entry name_placed (name_of p edit) _ (name-says (λ n. n.content_size)) rest opens ns (at + 18) run in
        rw (leads, map-id, others)
    section-says (arguments xs) s =
        let run = section-stored (arguments xs) p at s in
        let (leads, others) = run-says (Some tag.Pair) refl pair_entry pair_placed (pair_of p edit) _ pair-says rest opens xs (at + 20) run in
        rw (leads, map-id, others)
    section-says (unknown kind bytes) s = rw (stands-part p (at + 8) bytes (section-stored (unknown kind bytes) p at s))

  pub sections-say : (ss : List Section) (at : ℕ) → Stands p at (flat_map encode_section ss) → sections_of p edit (rows_from at ss) ≡ ss
  unfolding flat_map rows_from
  sections-say [] at s = unfold sections_of in refl
  sections-say (t ∷ ss) at s =
      let next : ℕ = at + length (encode_section t) in
      section-says at (rows_from next ss) (rows-open next ss) t (stands-first p at (encode_section t) (flat_map encode_section ss) s) ∙
      ap (λ (l : List Section). t ∷ l) (sections-say ss next (stands-next p at (encode_section t) (flat_map encode_section ss) next refl s))

  -- ---- that they obey the rules

  -- a row obeys the rules after a row of the previous tag, and its texts pass
  abbrev Passes : Option Tag → Row → Type 0
  Passes previous r = (obeys p edit previous r ≡ true) × (check_texts p edit (texts_of r) ≡ Ok tt)

  pub passes-first :
      (previous : Option Tag) (r : Row) (rows : List Row) →
      Passes previous r →
      check_rows p edit (tag_of r.tag) rows ≡ Ok tt →
      check_rows p edit previous (r ∷ rows) ≡ Ok tt
  unfolding check_rows check_row
  passes-first previous r rows (rule, texts) rest = then-passes _ _ (check-passes _ _ _ rule texts) rest

  -- the row of an item that stands is of a tag, and passes after a row that entries of this tag may follow
  abbrev pub PassesAfter : {A : Type 0} → Option Tag → (A → List ℕ) → (ℕ → A → Row) → (A → Type 0) → Type 0
  PassesAfter {A} own bytes row_at Good =
      (previous : Option Tag) (at : ℕ) (a : A) →
      entry_after previous ≡ own →
      Good a →
      at + length (bytes a) ≤ length p →
      Stands p at (bytes a) →
      Passes previous (row_at at a) × (tag_of (row_at at a).tag ≡ own)

  -- a text that stands lies inside the payload, and passes
  module _ (at : ℕ) (text : List ℕ) (stand : Stands p at text) where
    text-inside : at ≤ length p → leb (at + length text) (length p) ≡ true
    text-inside h = le-leb (at + length text) (length p) (stands-within p at text h stand)

    text-passes : Text text → check_text p at (length text) ≡ Ok tt
    text-passes ok = ok-text p at (length text) text (stands-part p at text stand) ok

  content-passes : PassesAfter (Some tag.Content) content_entry content_placed Text
  unfolding obeys tag_rule spans_by all_inside check_texts side_of all_zero
  content-passes previous at text after ok room s =
      let t = content-text p at text s in
      let within = text-inside (at + 12) text t (omega (arith, length-content_entry text, le-aligned (12 + wire_size (length text)))) in
      ((rw (same_tag_lem (entry_after previous) (Some tag.Content) after, within), then-passes _ _ (text-passes (at + 12) text t ok) refl), refl)

  pub name-passes : (size : Name → ℕ) → PassesAfter (Some tag.Name) name_entry (sized_placed size) NameOk
  unfolding obeys tag_rule spans_by all_inside check_texts side_of all_zero
  name-passes size previous at x after ok room s =
      let t = name-text p at x s in
      let within = text-inside (at + 16) x.text t (omega (arith, length-name_entry x, le-aligned (16 + wire_size (length x.text)))) in
      ((rw (same_tag_lem (entry_after previous) (Some tag.Name) after, within), then-passes _ _ (text-passes (at + 16) x.text t ok.text) refl), refl)

  pair-passes : PassesAfter (Some tag.Pair) pair_entry pair_placed PairOk
  unfolding obeys tag_rule spans_by all_inside check_texts side_of all_zero
  pair-passes previous at x after ok room s =
      let (name, value) = pair-texts p at x s in
      let next : ℕ = at + wire_size (length x.name) in
      let name-within = text-inside at x.name name (omega arith) in
      let value-within = text-inside next x.value value (omega (arith, length-pair_entry x)) in
      let texts =
      then-passes _ _ (text-passes at x.name name ok.name) (then-passes _ _ (text-passes next x.value value ok.value) refl) in
      ((rw (same_tag_lem (entry_after previous) (Some tag.Pair) after, name-within, value-within), texts), refl)

  module _ {A : Type 0} (own : Option Tag) (fixed : entry_after own ≡ own) (bytes : A → List ℕ) (row_at : ℕ → A → Row) (Good : A → Type 0) (item : PassesAfter own bytes row_at Good) where
    pub run-passes :
        (after : List Row) →
        ((previous : Option Tag) → check_rows p edit previous after ≡ Ok tt) →
        (items : List A) (previous : Option Tag) (at : ℕ) →
        entry_after previous ≡ own →
        All Good items →
        at + length (flat_map bytes items) ≤ length p →
        Stands p at (flat_map bytes items) →
        check_rows p edit previous (rows_of_run bytes row_at at items ++ after) ≡ Ok tt
    unfolding flat_map rows_of_run
    run-passes after passes [] previous at f oks room s = passes previous
    run-passes after passes (a ∷ items) previous at f (ok, oks) room s =
        let sizes = length-append (bytes a) (flat_map bytes items) in
        let (here, tagged) = item previous at a f ok (omega arith) (stands-first p at (bytes a) (flat_map bytes items) s) in
        passes-first previous (row_at at a) _ here
        (run-passes after passes items (tag_of (row_at at a).tag) (at + length (bytes a)) (ap entry_after tagged ∙ fixed) oks (omega arith) (stands-next p at (bytes a) (flat_map bytes items) _ refl s))

  -- the stored bytes end before the section does
  pub stored-within : (s : Section) (at : ℕ) → at + length (encode_section s) ≤ length p → at + start s + length (stored_bytes s) ≤ length p
  stored-within s at room = omega (arith, length-section s, le-aligned (filled s))

  pub section-passes :
      (s : Section) (at : ℕ) (after : List Row) →
      WellFormed s →
      at + length (encode_section s) ≤ length p →
      Stands p at (encode_section s) →
      ((previous : Option Tag) → check_rows p edit previous after ≡ Ok tt) →
      (previous : Option Tag) → check_rows p edit previous (rows_of_section at s ++ after) ≡ Ok tt
  unfolding rows_of_section stored_bytes obeys tag_rule spans_by all_inside check_texts side_of all_zero
  section-passes (plain header texts) at after ok room s passes previous =
      let within = stored-within (plain header texts) at room in
      passes-first previous _ _ (refl, refl)
      (run-passes (Some tag.Content) refl content_entry content_placed Text content-passes after passes texts (Some tag.PlainContents) (at + 28) refl ok.1 within (section-stored (plain header texts) p at s))
  section-passes (packed header stream count uncompressed) at after ok room s passes previous =
      let within = stored-within (packed header stream count uncompressed) at room in
      passes-first previous _ _ (rw (le-leb (at + 28 + length stream) (length p) within), refl) (passes (Some tag.PackedContents))
  section-passes (names ns) at after ok room s passes previous =
      let within = stored-within (names ns) at room in
      passes-first previous _ _ (refl, refl)
      (run-passes (Some tag.Name) refl name_entry name_placed NameOk (name-passes (λ n. n.content_size)) after passes ns (Some tag.Names) (at + 18) refl ok within (section-stored (names ns) p at s))
  section-passes (arguments xs) at after ok room s passes previous =
      let within = stored-within (arguments xs) at room in
      passes-first previous _ _ (refl, refl)
      (run-passes (Some tag.Pair) refl pair_entry pair_placed PairOk pair-passes after passes xs (Some tag.Arguments) (at + 20) refl ok within (section-stored (arguments xs) p at s))
  section-passes (unknown kind bytes) at after ok room s passes previous =
      let within = stored-within (unknown kind bytes) at room in
      passes-first previous _ _
      (rw (le-leb 3 kind ok.0, le-leb kind 65535 ok.1, eq-eqb (length bytes % 4) 0 ok.3, le-leb (at + 8 + length bytes) (length p) within), refl) (passes (Some tag.Unknown))

  pub rows_pass :
      (ss : List Section) (at : ℕ) →
      All WellFormed ss →
      at + length (flat_map encode_section ss) ≤ length p →
      Stands p at (flat_map encode_section ss) →
      (previous : Option Tag) → check_rows p edit previous (rows_from at ss) ≡ Ok tt
  unfolding flat_map rows_from
  rows_pass [] at ok room s previous = unfold check_rows in refl
  rows_pass (t ∷ ss) at (ok, oks) room s previous =
      let sizes = length-append (encode_section t) (flat_map encode_section ss) in
      let next : ℕ = at + length (encode_section t) in
      section-passes t at (rows_from next ss) ok (omega arith) (stands-first p at (encode_section t) (flat_map encode_section ss) s)
      (rows_pass ss next oks (omega arith) (stands-next p at (encode_section t) (flat_map encode_section ss) next refl s)) previous
