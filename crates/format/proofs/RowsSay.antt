-- What rows that obey the rules say: row by row it is what their sections say, and those sections are well formed.
-- Assumes nothing.
use Rattle.std.specs.Prelude.{Ok, Option, Some, None}
use Prim.Native.Nat.{ℕ, zero, suc, ◌^◌, ◌<◌}
use mathlib.Core.Bool.{true, false}
use mathlib.Core.List.{List, [], ◌∷◌, ◌++◌, map, flat_map, append-nil, append_assoc}
use mathlib.Core.Path.{◌≡◌, refl, ap, subst}
use lib.ListN.{length}
use Rattle.layout.specs.Spans.{side_of, span_bytes}
use Rattle.layout.specs.declared.span.Span.{Span}
use Rattle.layout.proofs.Lists.{flat_map-append}
use Rattle.table.specs.Rows.{bytes_span, spans_by}
use Rattle.table.specs.Tags.{tag_of, entry_after, opens_section}
use Rattle.table.specs.declared.row.Row.{Row}
use Rattle.table.specs.declared.tag.Tag.{Tag}
use Rattle.table.specs.declared.tag.Tag.TheVariants as tag
use Rattle.table.proofs.Tags.{section-no-entry}
use Rattle.format.specs.Resolve.{leading, content_of, name_of, pair_of, begun, sections_of}
use Rattle.format.specs.Rules.{check_rows}
use Rattle.format.specs.Said.{Said, says, numbers_by, said}
use Rattle.format.specs.Sections.{Name, Pair, Section, plain, packed, names, arguments, unknown}
use Rattle.format.specs.WellFormed.{Bytes, All, Text, NameOk, PairOk, WellFormed}
use Rattle.format.proofs.RowRules.{Ruled, RowOk, entry-own, begins-none, first-ok, rows_ok}
use Rattle.format.proofs.RowsByTag.{all_append, Every, every-both, leading-more, leading-ends, leading-all, leading-map}
use Rattle.format.proofs.Stands.{part_bytes}

-- what a section says, as rows would
abbrev pub said_content : List ℕ → Said
said_content text = says (Some tag.Content) [] (length text ∷ []) (text ∷ [])

abbrev pub said_name : Name → Said
said_name n = says (Some tag.Name) (n.content_size ∷ []) (length n.text ∷ []) (n.text ∷ [])

abbrev pub said_pair : Pair → Said
said_pair p = says (Some tag.Pair) [] (length p.name ∷ length p.value ∷ []) (p.name ∷ p.value ∷ [])

unfoldable pub said_of : Section → List Said
said_of (plain header texts) = says (Some tag.PlainContents) (header ∷ []) [] [] ∷ map said_content texts
said_of (packed header stream count uncompressed) = says (Some tag.PackedContents) (header ∷ count ∷ uncompressed ∷ []) (length stream ∷ []) (stream ∷ []) ∷ []
said_of (names ns) = says (Some tag.Names) [] [] [] ∷ map said_name ns
said_of (arguments ps) = says (Some tag.Arguments) [] [] [] ∷ map said_pair ps
said_of (unknown kind bytes) = says (Some tag.Unknown) (kind ∷ []) (length bytes ∷ []) (bytes ∷ []) ∷ []

-- the numbers of a row that are written as they are fit a field of 32 bits
abbrev pub Numbers : Option Tag → Row → Type 0
Numbers t r = All (λ (n : ℕ). n < 2 ^ 32) (numbers_by t r)

module _ (payload edit : List ℕ) where
  -- ---- what they say

  -- what the entries say that follow a row of a tag
  abbrev entries_say : Option Tag → List Row → List Said
  entries_say t rows = leading (entry_after t) (said payload edit) rows

  -- nothing, where no entry may follow
  none-say : (rows : List Row) → Every (RowOk payload edit) rows → leading None (said payload edit) rows ≡ []
  none-say [] k = unfold leading in refl
  none-say (r ∷ rows) k = leading-ends None _ r rows (λ q. subst (λ (t : Option Tag). RowOk payload edit t r) q k.0)

  -- a section's entries say what their rows do
  entries-say :
      {A : Type 0} (t : Option Tag) (f : Row → A) (g : A → Said) →
      ((r : Row) → tag_of r.tag ≡ t → RowOk payload edit t r → g (f r) ≡ said payload edit r) →
      (rows : List Row) →
      Every (RowOk payload edit) rows →
      map g (leading t f rows) ++ [] ≡ leading t (said payload edit) rows
  entries-say t f g same rows k = rw append-nil (leading-map (RowOk payload edit) t f g (said payload edit) same rows k)

  module _ (previous : Option Tag) (r : Row) (rows : List Row) (k : Every (RowOk payload edit) rows) where
    -- a section's row is no entry of the section before
    section-ends : opens_section (tag_of r.tag) ≡ true → entries_say previous (r ∷ rows) ≡ []
    section-ends b = leading-ends _ _ r rows (section-no-entry (tag_of r.tag) previous b)

    -- any other is one of them
    entry-says :
        (t : Option Tag) →
        opens_section t ≡ false →
        tag_of r.tag ≡ t →
        Ruled previous t r →
        entries_say previous (r ∷ rows) ++ flat_map said_of (begun payload edit t r rows) ≡ said payload edit r ∷ entries_say t rows
    unfolding flat_map
    entry-says t b q rule =
        let (own, fixed) = entry-own previous r t b rule in
        rw (begins-none payload edit t b r rows, append-nil, own, fixed) (leading-more t (said payload edit) r rows q)

    -- a section's row begins a section that says what the row and its entries do
    row-says :
        (t : Option Tag) →
        tag_of r.tag ≡ t →
        Ruled previous t r →
        RowOk payload edit t r →
        entries_say previous (r ∷ rows) ++ flat_map said_of (begun payload edit t r rows) ≡ said payload edit r ∷ entries_say t rows
    unfolding flat_map said_of begun said numbers_by spans_by
    row-says (Some tag.PlainContents) q rule ok =
        rw (section-ends (ap opens_section q), q, entries-say (Some tag.Content) (content_of payload edit) said_content (λ r q h. rw (q, h.whole)) rows k)
    row-says (Some tag.PackedContents) q rule ok = rw (section-ends (ap opens_section q), q, ok, none-say rows k)
    row-says (Some tag.Names) q rule ok =
        rw (section-ends (ap opens_section q), q, entries-say (Some tag.Name) (name_of payload edit) said_name (λ r q h. rw (q, h.whole)) rows k)
    row-says (Some tag.Arguments) q rule ok =
        rw (section-ends (ap opens_section q), q, entries-say (Some tag.Pair) (pair_of payload edit) said_pair (λ r q h. rw (q, h.0.whole, h.1.whole)) rows k)
    row-says (Some tag.Unknown) q rule ok = rw (section-ends (ap opens_section q), q, ok.2, none-say rows k)
    row-says (Some tag.Content) q rule ok = entry-says (Some tag.Content) refl q rule
    row-says (Some tag.Name) q rule ok = entry-says (Some tag.Name) refl q rule
    row-says (Some tag.Pair) q rule ok = entry-says (Some tag.Pair) refl q rule
    row-says None q rule ok = absurd ok

  -- the entries that follow a row, and then the sections, say what the rows do
  rest-says :
      (previous : Option Tag) (rows : List Row) →
      check_rows payload edit previous rows ≡ Ok tt →
      entries_say previous rows ++ flat_map said_of (sections_of payload edit rows) ≡ map (said payload edit) rows
  unfolding sections_of
  rest-says previous [] e = unfold leading flat_map in refl
  rest-says previous (r ∷ rows) e =
      let (rule, ok, rest) = first-ok payload edit previous r rows e in
      let here = row-says previous r rows (rows_ok payload edit (tag_of r.tag) rows rest) (tag_of r.tag) refl rule ok in
      rw (flat_map-append, ← append_assoc, here, rest-says (tag_of r.tag) rows rest)

  pub said-by-sections :
      (rows : List Row) →
      check_rows payload edit None rows ≡ Ok tt →
      flat_map said_of (sections_of payload edit rows) ≡ map (said payload edit) rows
  said-by-sections rows e = rw (none-say rows (rows_ok payload edit None rows e)) at (rest-says None rows e)

  -- ---- that their sections are well formed

  abbrev Known : Option Tag → Row → Type 0
  Known t r = RowOk payload edit t r × Numbers t r

  module _ (p : Bytes payload) (e : Bytes edit) where
    side-bytes : (side : ℕ) → Bytes (side_of side payload edit)
    unfolding side_of
    side-bytes zero = p
    side-bytes (suc n) = e

    span-bytes : (s : Span) → Bytes (span_bytes payload edit s)
    span-bytes s = part_bytes (side_of s.side payload edit) (side-bytes s.side) s.start s.count

    begun-well-formed :
        (r : Row) (rows : List Row) →
        Every Known rows →
        (t : Option Tag) →
        RowOk payload edit t r →
        Numbers t r →
        All WellFormed (begun payload edit t r rows)
    unfolding begun numbers_by
    begun-well-formed r rows k (Some tag.PlainContents) ok fit = ((fit.0, leading-all Known (Some tag.Content) (content_of payload edit) Text (λ r h. h.0.text) rows k), tt)
    begun-well-formed r rows k (Some tag.PackedContents) ok fit = ((fit.0, span-bytes (bytes_span r), fit.1.0, fit.1.1.0), tt)
    begun-well-formed r rows k (Some tag.Names) ok fit =
        (leading-all Known (Some tag.Name) (name_of payload edit) NameOk (λ r h. record { text = h.0.text; size = h.1.0 }) rows k, tt)
    begun-well-formed r rows k (Some tag.Arguments) ok fit =
        (leading-all Known (Some tag.Pair) (pair_of payload edit) PairOk (λ r h. record { name = h.0.0.text; value = h.0.1.text }) rows k, tt)
    begun-well-formed r rows k (Some tag.Unknown) ok fit =
        let (low, high, whole, words) = ok in
        ((low, high, span-bytes (bytes_span r), rw whole words), tt)
    begun-well-formed r rows k (Some tag.Content) ok fit = tt
    begun-well-formed r rows k (Some tag.Name) ok fit = tt
    begun-well-formed r rows k (Some tag.Pair) ok fit = tt
    begun-well-formed r rows k None ok fit = tt

    all-well-formed : (rows : List Row) → Every Known rows → All WellFormed (sections_of payload edit rows)
    unfolding sections_of
    all-well-formed [] k = tt
    all-well-formed (r ∷ rows) k =
        all_append WellFormed (begun payload edit (tag_of r.tag) r rows) (sections_of payload edit rows)
        (begun-well-formed r rows k.1 (tag_of r.tag) k.0.0 k.0.1)
        (all-well-formed rows k.1)

  pub sections-well-formed :
      Bytes payload →
      Bytes edit →
      (rows : List Row) →
      Every Numbers rows →
      check_rows payload edit None rows ≡ Ok tt →
      All WellFormed (sections_of payload edit rows)
  sections-well-formed p e rows fit h =
      all-well-formed p e rows (every-both (RowOk payload edit) Numbers rows (rows_ok payload edit None rows h) fit)
