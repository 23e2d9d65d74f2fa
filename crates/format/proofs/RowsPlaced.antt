-- Every row of an accepted payload names places inside it, in numbers of 32 bits: section by section, and entry by entry.
-- Assumes nothing.
use Rattle.std.specs.Prelude.{Ok}
use Prim.Native.Nat.{ℕ, zero, suc, ◌+◌, ◌≤◌, ◌<◌, ◌^◌}
use mathlib.Core.List.{List, [], ◌∷◌}
use mathlib.Core.Path.{◌≡◌, refl, subst}
use native.Mathlib.Omega.{arith}
use lib.ListN.{length}
use Rattle.wire.specs.Number.{u16_at, u32_at}
use Rattle.wire.proofs.PaddingLaws.{le-aligned}
use Rattle.wire.specs.Length.{wire_size}
use Rattle.layout.specs.Kinds.{kind_number, checked_compression}
use Rattle.layout.proofs.Promises.{kind-has-number}
use Rattle.layout.specs.declared.compression.SourceCompression.{SourceCompression}
use Rattle.layout.specs.declared.compression.SourceCompression.TheVariants.{None, Zlib}
use Rattle.layout.specs.declared.section_type.SourceInfoSectionType.{SourceInfoSectionType}
use Rattle.layout.specs.declared.section_type.SourceInfoSectionType.TheVariants.{SourceContents, SourceNames, Arguments, Unknown}
use Rattle.layout.proofs.Checked.{check-good, then-good}
use Rattle.table.specs.Rows.{plain_row, names_row, arguments_row, spans_by}
use Rattle.table.specs.declared.row.Row.{Row}
use Rattle.format.specs.Encoding.{limit}
use Rattle.format.specs.Parse.{entries, name_row_at, content_row_at, packed_row_at, unknown_row_at, pairs, parse_stored, parse_section, kind_at, parse_sections, parse, after_pair, after_entry}
use Rattle.format.specs.Promises.{Placed, Fits32}
use Rattle.format.specs.Walk.{pair_at}
use Rattle.format.specs.WellFormed.{Bytes, All}
use Rattle.format.proofs.EntryLaws.{entry-good, entries_none, entries-first}
use Rattle.format.proofs.PairLaws.{pair-good}
use Rattle.format.proofs.RowsByTag.{all_append}
use Rattle.format.proofs.SectionLaws.{contents-good, plain-good, names-good, arguments-good, sections-good, sections-end, parse-good}
use Rattle.format.proofs.Stands.{number-below}

module _ (p : List ℕ) (bytes : Bytes p) (small : length p ≤ limit) where
  -- what is shown of every row
  abbrev Held : Row → Type 0
  Held r = Placed p r × Fits32 r

  module _ (end : ℕ) (inside : end ≤ length p) where
    -- entries, whose rows are placed where their texts end before `end`
    entries-placed :
        (header : ℕ) (row_of : ℕ → ℕ → Row) →
        ((at n : ℕ) → at + header + n ≤ end → Held (row_of at n)) →
        (count at : ℕ) (rs : List Row) → entries header row_of count p at end ≡ Ok rs → All Held rs
    entries-placed header row_of ok zero at rs e = rw (entries_none header p end row_of at rs e).1 tt
    entries-placed header row_of ok (suc count) at rs e =
        let (n, rest, first, others, same) = entries-first header p end row_of count at rs e in
        let g = entry-good header p at end n first in
        let here = ok at n (omega (arith, g.within, le-aligned (header + wire_size n))) in
        rw same (here, entries-placed header row_of ok count (after_entry header at n) rest others)

    name-placed : (at n : ℕ) → at + 16 + n ≤ end → Held (name_row_at p at n)
    unfolding spans_by
    name-placed at n h = (
      ((refl, omega arith), tt),
      record { tag = omega arith; side = omega arith; a = omega arith; b = omega arith; c = number-below p bytes 4 (at + 12); d = omega arith; e = omega arith },
    )

    content-placed : (at n : ℕ) → at + 12 + n ≤ end → Held (content_row_at at n)
    unfolding spans_by
    content-placed at n h = (
      ((refl, omega arith), tt),
      record { tag = omega arith; side = omega arith; a = omega arith; b = omega arith; c = omega arith; d = omega arith; e = omega arith },
    )

    -- the row of the pair at a place, both of whose texts end before `end`
    pair-placed : (at : ℕ) → after_pair (pair_at p at) ≤ end → Held (pair_at p at)
    unfolding spans_by
    pair-placed at h = (
      ((refl, omega arith), ((refl, omega arith), tt)),
      record { tag = omega arith; side = omega arith; a = omega arith; b = omega arith; c = omega arith; d = omega arith; e = omega arith },
    )

    pairs-placed : (count at : ℕ) (rs : List Row) → pairs count p at end ≡ Ok rs → All Held rs
    unfolding pairs
    pairs-placed zero at rs e =
        let found = (check-good _ _ _ _ e).1 in
        let none : rs ≡ [] = cc in
        rw none tt
    pairs-placed (suc count) at rs e =
        let (r, first, after) = then-good _ _ _ e in
        let (rest, others, found) = then-good _ _ _ after in
        let (long, before, same) = pair-good p at end r first in
        let here : Held r = rw same (pair-placed at (subst (λ (q : Row). after_pair q ≤ end) same before)) in
        let all : rs ≡ r ∷ rest = cc in
        rw all (here, pairs-placed count (after_pair r) rest others)

  -- the section of a size at a place, by its kind
  module _ (at size : ℕ) (within : at + size ≤ length p) where
    stored-placed : (c : SourceCompression) → 28 + u32_at p (at + 16) ≤ size → (rs : List Row) → parse_stored c p at ≡ Ok rs → All Held rs
    unfolding spans_by parse_stored
    stored-placed None room rs e =
        let h = plain-good p at rs e in
        let end : ℕ = at + 28 + u32_at p (at + 16) in
        let inside : end ≤ length p = omega arith in
        let head : Fits32 (plain_row (u32_at p (at + 8))) = record { tag = omega arith; side = omega arith; a = number-below p bytes 4 (at + 8); b = omega arith; c = omega arith; d = omega arith; e = omega arith } in
        rw h.all ((tt, head), entries-placed end inside 12 content_row_at (content-placed end inside) (u32_at p (at + 24)) (at + 28) h.rest h.found)
    stored-placed Zlib room rs e =
        let one : rs ≡ packed_row_at p at ∷ [] = cc in
        let fit : Fits32 (packed_row_at p at) =
        record { tag = omega arith; side = omega arith; a = number-below p bytes 4 (at + 8); b = omega arith; c = omega arith; d = number-below p bytes 4 (at + 24); e = number-below p bytes 4 (at + 20) } in
        rw one ((((refl, omega arith), tt), fit), tt)

    section-placed : (kind : SourceInfoSectionType) → kind_number kind < 2 ^ 16 → 8 ≤ size → (rs : List Row) → parse_section kind p at size ≡ Ok rs → All Held rs
    unfolding spans_by parse_section
    section-placed SourceContents k h rs e =
        let told = contents-good p at size rs e in
        stored-placed (checked_compression (u16_at p (at + 14))) told.0.within rs told.1
    section-placed SourceNames k h rs e =
        let told = names-good p at size rs e in
        let end : ℕ = at + 18 + u16_at p (at + 16) in
        let inside : end ≤ length p = omega (arith, told.0.within) in
        let head : Fits32 names_row = record { tag = omega arith; side = omega arith; a = omega arith; b = omega arith; c = omega arith; d = omega arith; e = omega arith } in
        rw told.1.all ((tt, head), entries-placed end inside 16 (name_row_at p) (name-placed end inside) (u32_at p (at + 12)) (at + 18) told.1.rest told.1.found)
    section-placed Arguments k h rs e =
        let told = arguments-good p at size rs e in
        let end : ℕ = at + 20 + u32_at p (at + 12) in
        let inside : end ≤ length p = omega (arith, told.0.within) in
        let head : Fits32 arguments_row = record { tag = omega arith; side = omega arith; a = omega arith; b = omega arith; c = omega arith; d = omega arith; e = omega arith } in
        rw told.1.all ((tt, head), pairs-placed end inside (u32_at p (at + 16)) (at + 20) told.1.rest told.1.found)
    section-placed (Unknown kind) k h rs e =
        let one : rs ≡ unknown_row_at kind at size ∷ [] = cc in
        let fit : Fits32 (unknown_row_at kind at size) = record { tag = omega arith; side = omega arith; a = omega arith; b = omega arith; c = omega arith; d = omega arith; e = omega arith } in
        rw one ((((refl, omega arith), tt), fit), tt)

  sections-placed : (count at : ℕ) (rs : List Row) → parse_sections count p at ≡ Ok rs → All Held rs
  sections-placed zero at rs e = rw (sections-end p at rs e).1 tt
  sections-placed (suc count) at rs e =
      let s = sections-good p at count rs e in
      let number : kind_number (kind_at p at) < 2 ^ 16 = omega (arith, kind-has-number (u16_at p (at + 6)), number-below p bytes 2 (at + 6)) in
      rw s.all
      (all_append Held s.first s.rest
      (section-placed at (u32_at p at) s.within (kind_at p at) number s.header s.first s.first_good)
      (sections-placed count (at + u32_at p at) s.rest s.rest-good))

pub rows-placed : (p : List ℕ) (rs : List Row) → Bytes p → parse p ≡ Ok rs → All (λ (r : Row). Placed p r × Fits32 r) rs
rows-placed p rs bytes e =
    let told = parse-good p rs e in
    sections-placed p bytes told.0 (u16_at p 6) 8 rs told.1
