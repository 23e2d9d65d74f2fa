-- Reading and the walk agree: where a definition of reading is good, its rows are those that the walk finds, and the walk ends where reading
-- does.
-- Assumes nothing.
use Rattle.std.specs.Prelude.{Ok}
use Prim.Native.Nat.{ℕ, zero, suc, ◌+◌, ◌-◌, ◌≤◌}
use mathlib.Core.List.{List, ◌∷◌, flat_map}
use mathlib.Core.Path.{◌≡◌, ap, ◌∙◌}
use native.Mathlib.Omega.{arith}
use borrow.Author.Tests.{eqb-true}
use Rattle.wire.specs.Number.{u16_at, u32_at}
use Rattle.layout.specs.declared.compression.SourceCompression.{SourceCompression}
use Rattle.layout.specs.declared.compression.SourceCompression.TheVariants.{None, Zlib}
use Rattle.layout.specs.declared.section_type.SourceInfoSectionType.{SourceInfoSectionType}
use Rattle.layout.specs.declared.section_type.SourceInfoSectionType.TheVariants.{SourceContents, SourceNames, Arguments, Unknown}
use Rattle.table.specs.Rows.{plain_row, names_row, arguments_row}
use Rattle.table.specs.declared.row.Row.{Row}
use Rattle.format.specs.Parse.{entries, pairs, name_row_at, content_row_at, parse_arguments, parse_names, parse_stored, parse_contents, parse_section, kind_at, parse_sections, parse, after_entry, after_pair}
use Rattle.format.specs.Walk.{places_from, places, compression_at, walk_entries, entries_end, pair_at, walk_pairs, pairs_end, walk_contents, walk_section, rows_at, walk}
use Rattle.format.proofs.EntryLaws.{entry-good}
use Rattle.layout.proofs.Checked.{check-good, then-good}
use Rattle.format.proofs.PairLaws.{pair-good}
use Rattle.format.proofs.SectionLaws.{contents-good, plain-good, names-good, arguments-good, sections-good, sections-end, parse-good}

-- ---- entries and pairs

module _ (p : List ℕ) (end : ℕ) where
  module _ (header : ℕ) (row_of : ℕ → ℕ → Row) where
    -- the row of the entry at a place, as the walk finds it
    abbrev row_at : ℕ → Row
    row_at at = row_of at (u32_at p (at + 8) - 1)

    pub entries-walk :
        (count at : ℕ) (rs : List Row) →
        entries header row_of count p at end ≡ Ok rs →
        (rs ≡ walk_entries p row_at count at) × (entries_end p count at ≡ end)
    unfolding entries walk_entries entries_end
    entries-walk zero at rs e =
        let ended = check-good _ _ _ _ e in
        (cc ended.1, eqb-true at end ended.0)
    entries-walk (suc count) at rs e =
        let first = then-good _ _ _ e in
        let n = first.0 in
        let rest = then-good _ _ _ first.2 in
        let told = entry-good header p at end n first.1 in
        let text : n ≡ u32_at p (at + 8) - 1 = omega (arith, told.text) in
        let this : row_of at n ≡ row_at at = ap (row_of at) text in
        let there : after_entry header at n ≡ at + u32_at p at = omega (arith, told.size) in
        let left = entries-walk count (after_entry header at n) rest.0 rest.1 in
        (cc rest.2, cc)

  pub pairs-walk : (count at : ℕ) (rs : List Row) → pairs count p at end ≡ Ok rs → (rs ≡ walk_pairs p count at) × (pairs_end p count at ≡ end)
  unfolding pairs walk_pairs pairs_end
  pairs-walk zero at rs e =
      let ended = check-good _ _ _ _ e in
      (cc ended.1, eqb-true at end ended.0)
  pairs-walk (suc count) at rs e =
      let first = then-good _ _ _ e in
      let rest = then-good _ _ _ first.2 in
      let this : first.0 ≡ pair_at p at = (pair-good p at end first.0 first.1).2 in
      let there : after_pair first.0 ≡ after_pair (pair_at p at) = ap after_pair this in
      let left = pairs-walk count (after_pair first.0) rest.0 rest.1 in
      (cc rest.2, cc)

-- ---- a section: its walk, and that what it holds ends within its size

module _ (p : List ℕ) (at : ℕ) where
  pub contents-walk : (size : ℕ) (rs : List Row) → parse_contents p at size ≡ Ok rs → rs ≡ walk_contents p (compression_at p at) at
  unfolding parse_stored walk_contents
  contents-walk size rs e = go (compression_at p at) (contents-good p at size rs e).1
    where
      go : (c : SourceCompression) → parse_stored c p at ≡ Ok rs → rs ≡ walk_contents p c at
      go None f =
          let h = plain-good p at rs f in
          let held = entries-walk p _ 12 content_row_at (u32_at p (at + 24)) (at + 28) h.rest h.found in
          h.all ∙ ap (λ (l : List Row). plain_row (u32_at p (at + 8)) ∷ l) held.0
      go Zlib f = cc

  pub contents-within : (size : ℕ) (rs : List Row) → parse_contents p at size ≡ Ok rs → compression_at p at ≡ None → entries_end p (u32_at p (at + 24)) (at + 28) ≤ at + size
  contents-within size rs e plain =
      let told = contents-good p at size rs e in
      let h = plain-good p at rs (rw plain at told.1) in
      let held = entries-walk p _ 12 content_row_at (u32_at p (at + 24)) (at + 28) h.rest h.found in
      omega (arith, told.0.within, held.1)

  pub names-walk : (size : ℕ) (rs : List Row) → parse_names p at size ≡ Ok rs → (rs ≡ walk_section p SourceNames at) × (entries_end p (u32_at p (at + 12)) (at + 18) ≤ at + size)
  unfolding walk_section
  names-walk size rs e =
      let told = names-good p at size rs e in
      let h = told.1 in
      let held = entries-walk p _ 16 (name_row_at p) (u32_at p (at + 12)) (at + 18) h.rest h.found in
      (h.all ∙ ap (λ (l : List Row). names_row ∷ l) held.0, omega (arith, told.0.within, held.1))

  pub arguments-walk : (size : ℕ) (rs : List Row) → parse_arguments p at size ≡ Ok rs → (rs ≡ walk_section p Arguments at) × (pairs_end p (u32_at p (at + 16)) (at + 20) ≤ at + size)
  unfolding walk_section
  arguments-walk size rs e =
      let told = arguments-good p at size rs e in
      let h = told.1 in
      let held = pairs-walk p _ (u32_at p (at + 16)) (at + 20) h.rest h.found in
      (h.all ∙ ap (λ (l : List Row). arguments_row ∷ l) held.0, omega (arith, told.0.within, held.1))

  pub section-walk : (kind : SourceInfoSectionType) (rs : List Row) → parse_section kind p at (u32_at p at) ≡ Ok rs → rs ≡ walk_section p kind at
  unfolding parse_section walk_section
  section-walk SourceContents rs e = contents-walk (u32_at p at) rs e
  section-walk SourceNames rs e = (names-walk (u32_at p at) rs e).0
  section-walk Arguments rs e = (arguments-walk (u32_at p at) rs e).0
  section-walk (Unknown kind) rs e = cc

-- ---- sections and a payload

pub sections-walk : (p : List ℕ) (count at : ℕ) (rs : List Row) → parse_sections count p at ≡ Ok rs → rs ≡ flat_map (rows_at p) (places_from p count at)
unfolding places_from flat_map
sections-walk p zero at rs e = (sections-end p at rs e).1
sections-walk p (suc count) at rs e =
    let told = sections-good p at count rs e in
    let first = section-walk p at (kind_at p at) told.first told.first_good in
    let rest = sections-walk p count (at + u32_at p at) told.rest told.rest-good in
    told.all ∙ cc

pub parse-walk : (p : List ℕ) (rs : List Row) → parse p ≡ Ok rs → rs ≡ walk p
unfolding walk places
parse-walk p rs e = sections-walk p (u16_at p 6) 8 rs (parse-good p rs e).1
