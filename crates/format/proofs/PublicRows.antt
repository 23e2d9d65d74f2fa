-- The public rows of sections that stand in a payload obey the rules of rows and say the public sections, so that the public copy of an encoding
-- is the encoding of these.
-- Assumes nothing.
use Rattle.std.specs.Prelude.{Ok, Option, Some, None}
use Prim.Native.Nat.{ℕ, ◌+◌, ◌≤◌}
use mathlib.Core.Bool.{true}
use mathlib.Core.List.{List, [], ◌∷◌, ◌++◌, map, flat_map, map-map, map-append}
use mathlib.Core.Path.{◌≡◌, refl, sym, ap, ap₂, ◌∙◌}
use native.Mathlib.Omega.{arith}
use borrow.Author.Tests.{le-leb}
use lib.ListN.{length, get_or, replicate, length-append}
use Rattle.wire.specs.Length.{wire_size}
use Rattle.wire.specs.Padding.{all_zero}
use Rattle.wire.proofs.PaddingLaws.{le-aligned}
use Rattle.layout.specs.Checked.{Checked}
use Rattle.layout.specs.Spans.{side_of}
use Rattle.layout.proofs.Checked.{check-passes, then-passes}
use Rattle.layout.proofs.Lists.{flat_map-append}
use Rattle.table.specs.Rows.{no_row, spans_by}
use Rattle.table.specs.Tags.{tag_of, entry_after}
use Rattle.table.specs.declared.row.Row.{Row}
use Rattle.table.specs.declared.tag.Tag.{Tag}
use Rattle.table.specs.declared.tag.Tag.TheVariants as tag
use Rattle.table.proofs.Tags.{same_tag_lem}
use Rattle.format.specs.Encoding.{content_entry, name_entry, pair_entry, stored_bytes, encode_section, encode, within_limits}
use Rattle.format.specs.PublicCopy.{nothing, public_row, public_rows, public_copy}
use Rattle.format.specs.Resolve.{content_of, name_of, begun, sections_of, resolve}
use Rattle.format.specs.Rules.{tag_rule, all_inside, obeys, check_texts, check_rows}
use Rattle.format.specs.Secrecy.{section_of}
use Rattle.format.specs.Sections.{Name, Section, plain, packed, names, arguments, unknown}
use Rattle.format.specs.WellFormed.{All, Text, NameOk, WellFormed}
use Rattle.format.specs.Write.{written}
use Rattle.format.proofs.Encoded.{stand}
use Rattle.format.proofs.Encoding.{length-content_entry, length-encode}
use Rattle.format.proofs.FactsOf.{fact_of, facts_of, public_sections}
use Rattle.format.proofs.PayloadRead.{read-payload}
use Rattle.format.proofs.PlacedRows.{content_placed, name_placed, pair_placed, rows_of_run, rows_of_section, rows_from}
use Rattle.format.proofs.RowsStand.{Opens, Says, name-says, run-says, section-says, passes-first, PassesAfter, name-passes, run-passes, stored-within, section-passes}
use Rattle.format.proofs.SectionBytes.{section-stored}
use Rattle.format.proofs.Stands.{Stands, stands-first, stands-next}
use Rattle.format.proofs.TextsOk.{empty-text, ok-text}

-- ---- the public rows of a run, and of the first section

-- what becomes of a row that stays one
abbrev kept : Row → Row
kept r = get_or (public_row (tag_of r.tag) r) 0 no_row

abbrev content_kept : ℕ → List ℕ → Row
content_kept at text = kept (content_placed at text)

abbrev name_kept : ℕ → Name → Row
name_kept at n = kept (name_placed at n)

run-public :
    {A : Type 0} (bytes : A → List ℕ) (row_at : ℕ → A → Row) →
    ((at : ℕ) (a : A) → public_row (tag_of (row_at at a).tag) (row_at at a) ≡ kept (row_at at a) ∷ []) →
    (items : List A) (at : ℕ) →
    public_rows (rows_of_run bytes row_at at items) ≡ rows_of_run bytes (λ at a. kept (row_at at a)) at items
unfolding public_rows flat_map rows_of_run
run-public bytes row_at one [] at = refl
run-public bytes row_at one (a ∷ items) at =
    ap₂ (λ (l m : List Row). l ++ m) (one at a) (run-public bytes row_at one items (at + length (bytes a)))

public-first :
    (at : ℕ) (s : Section) (ss : List Section) →
    public_rows (rows_from at (s ∷ ss)) ≡ public_rows (rows_of_section at s) ++ public_rows (rows_from (at + length (encode_section s)) ss)
unfolding public_rows rows_from
public-first at s ss = flat_map-append (λ (r : Row). public_row (tag_of r.tag) r) (rows_of_section at s) (rows_from (at + length (encode_section s)) ss)

public-opens : (ss : List Section) (at : ℕ) → Opens (public_rows (rows_from at ss))
unfolding public_rows public_row flat_map rows_from rows_of_section
public-opens [] at = tt
public-opens (plain header texts ∷ ss) at = refl
public-opens (packed header stream count uncompressed ∷ ss) at = refl
public-opens (names ns ∷ ss) at = refl
public-opens (arguments xs ∷ ss) at = refl
public-opens (unknown kind bytes ∷ ss) at = public-opens ss (at + length (encode_section (unknown kind bytes)))

-- ---- what they say: what is public of each section, and nothing else

map-const : {A B : Type 0} (b : B) (l : List A) → map (λ (a : A). b) l ≡ replicate (length l) b
map-const b [] = refl
map-const b (a ∷ l) = ap (◌∷◌ b) (map-const b l)

module _ (p : List ℕ) where
  -- of a content nothing
  content-hidden : Says p [] (Some tag.Content) content_entry content_kept (content_of p []) (λ text. [])
  unfolding begun public_row
  content-hidden at text s = (refl, refl, λ rows. refl)

  -- of a name its text
  name-shown : Says p [] (Some tag.Name) name_entry name_kept (name_of p []) (λ (n : Name). record { text = n.text; content_size = 1 })
  unfolding public_row
  name-shown = name-says p [] (λ n. 1)

  module _ (at : ℕ) (rest : List Row) (opens : Opens rest) where
    public-says :
        (s : Section) →
        Stands p at (encode_section s) →
        sections_of p [] (public_rows (rows_of_section at s) ++ rest) ≡ map section_of (fact_of s) ++ sections_of p [] rest
    unfolding public_rows public_row flat_map rows_of_section sections_of begun stored_bytes section_of fact_of
    public-says (plain header texts) s =
        let run = section-stored (plain header texts) p at s in
        let (leads, others) = run-says p [] (Some tag.Content) refl content_entry content_kept (content_of p []) _ content-hidden rest opens texts (at + 28) run in
        rw (run-public content_entry content_placed (λ at text. refl) texts (at + 28), leads, map-const {B = List ℕ} [] texts, others)
    public-says (packed header stream count uncompressed) s = refl
    public-says (names ns) s =
        let run = section-stored (names ns) p at s in
        let (leads, others) = run-says p [] (Some tag.Name) refl name_entry name_kept (name_of p []) _ name-shown rest opens ns (at + 18) run in
        rw (run-public name_entry name_placed (λ at n. refl) ns (at + 18), leads, map-map, others)
    public-says (arguments xs) s =
        rw (run-public pair_entry pair_placed (λ at x. refl) xs (at + 20)) (section-says p [] at rest opens (arguments xs) s)
    public-says (unknown kind bytes) s = refl

  pub public-rows-say : (ss : List Section) (at : ℕ) → Stands p at (flat_map encode_section ss) → sections_of p [] (public_rows (rows_from at ss)) ≡ public_sections ss
  unfolding flat_map public_sections facts_of
  public-rows-say [] at s = unfold public_rows rows_from sections_of in refl
  public-rows-say (t ∷ ss) at s =
      let next : ℕ = at + length (encode_section t) in
      rw (public-first at t ss)
      (public-says at (public_rows (rows_from next ss)) (public-opens ss next) t (stands-first p at (encode_section t) (flat_map encode_section ss) s) ∙
      ap (λ (l : List Section). map section_of (fact_of t) ++ l) (public-rows-say ss next (stands-next p at (encode_section t) (flat_map encode_section ss) next refl s)) ∙
      sym (map-append section_of (fact_of t) (facts_of ss)))

  -- ---- that they obey the rules

  content-obeys : PassesAfter p [] (Some tag.Content) content_entry content_kept Text
  unfolding public_row obeys tag_rule spans_by all_inside check_texts side_of all_zero
  content-obeys previous at text after ok room s =
      let within = le-leb (nothing.start + nothing.count) (length p) (omega (arith, length-content_entry text, le-aligned (12 + wire_size (length text)))) in
      ((rw (same_tag_lem (entry_after previous) (Some tag.Content) after, within), then-passes _ _ (ok-text p nothing.start nothing.count [] refl empty-text) refl), refl)

  name-obeys : PassesAfter p [] (Some tag.Name) name_entry name_kept NameOk
  unfolding public_row
  name-obeys = name-passes p [] (λ n. 1)

  public-passes :
      (s : Section) (at : ℕ) (after : List Row) →
      WellFormed s →
      at + length (encode_section s) ≤ length p →
      Stands p at (encode_section s) →
      ((previous : Option Tag) → check_rows p [] previous after ≡ Ok tt) →
      (previous : Option Tag) → check_rows p [] previous (public_rows (rows_of_section at s) ++ after) ≡ Ok tt
  unfolding public_rows public_row flat_map rows_of_section stored_bytes obeys tag_rule spans_by all_inside check_texts side_of all_zero
  public-passes (plain header texts) at after ok room s passes previous =
      let within = stored-within p [] (plain header texts) at room in
      rw (run-public content_entry content_placed (λ at text. refl) texts (at + 28))
      (passes-first p [] previous _ _ (refl, refl)
      (run-passes p [] (Some tag.Content) refl content_entry content_kept Text content-obeys after passes texts (Some tag.PlainContents) (at + 28) refl ok.1 within (section-stored (plain header texts) p at s)))
  public-passes (packed header stream count uncompressed) at after ok room s passes previous =
      let within = stored-within p [] (packed header stream count uncompressed) at room in
      passes-first p [] previous _ _ (rw (le-leb (nothing.start + nothing.count) (length p) (omega arith)), refl) (passes (Some tag.PackedContents))
  public-passes (names ns) at after ok room s passes previous =
      let within = stored-within p [] (names ns) at room in
      rw (run-public name_entry name_placed (λ at n. refl) ns (at + 18))
      (passes-first p [] previous _ _ (refl, refl)
      (run-passes p [] (Some tag.Name) refl name_entry name_kept NameOk name-obeys after passes ns (Some tag.Names) (at + 18) refl ok within (section-stored (names ns) p at s)))
  public-passes (arguments xs) at after ok room s passes previous =
      rw (run-public pair_entry pair_placed (λ at x. refl) xs (at + 20)) (section-passes p [] (arguments xs) at after ok room s passes previous)
  public-passes (unknown kind bytes) at after ok room s passes previous = passes previous

  pub public-rows-pass :
      (ss : List Section) (at : ℕ) →
      All WellFormed ss →
      at + length (flat_map encode_section ss) ≤ length p →
      Stands p at (flat_map encode_section ss) →
      (previous : Option Tag) → check_rows p [] previous (public_rows (rows_from at ss)) ≡ Ok tt
  unfolding flat_map
  public-rows-pass [] at ok room s previous = unfold public_rows rows_from check_rows in refl
  public-rows-pass (t ∷ ss) at (ok, oks) room s previous =
      let sizes = length-append (encode_section t) (flat_map encode_section ss) in
      let next : ℕ = at + length (encode_section t) in
      rw (public-first at t ss)
      (public-passes t at (public_rows (rows_from next ss)) ok (omega arith) (stands-first p at (encode_section t) (flat_map encode_section ss) s)
      (public-rows-pass ss next oks (omega arith) (stands-next p at (encode_section t) (flat_map encode_section ss) next refl s)) previous)

-- ---- what they write

module _ (ss : List Section) (ok : All WellFormed ss) (fit : within_limits (public_sections ss) ≡ true) where
  pub public-written : written (encode ss) [] (public_rows (rows_from 8 ss)) ≡ Ok (encode (public_sections ss))
  unfolding written resolve
  public-written =
      let obey = public-rows-pass (encode ss) ss 8 ok (omega (arith, length-encode ss)) (stand ss) None in
      let say = ap {B = Checked (List Section)} (λ (l : List Section). Ok l) (public-rows-say (encode ss) ss 8 (stand ss)) in
      then-passes _ _ (then-passes _ _ obey say) (check-passes _ _ _ fit refl)

  pub public-copy-is : within_limits ss ≡ true → public_copy (encode ss) ≡ Ok (encode (public_sections ss))
  unfolding public_copy
  public-copy-is whole = then-passes _ _ (read-payload ss ok whole) public-written
