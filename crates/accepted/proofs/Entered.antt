-- Entries and pairs one after the other: the next one, and none after the last; and that those of a section that is good can be gone through.
-- Assumes nothing.
use Rattle.std.proofs.Common.{◌≡◌, ℕ, zero, suc, ◌+◌, ◌-◌, ◌<◌, ◌≤◌, List, [], ◌∷◌, length, drop, Ok, refl, ap, ◌∙◌, arith}
use mathlib.Core.List.{map}
use Rattle.find.specs.Nul.{until_nul}
use Rattle.wire.specs.Length.{wire_size}
use Rattle.wire.specs.Number.{u32_at}
use Rattle.wire.proofs.PaddingLaws.{le-aligned}
use Rattle.layout.proofs.Checked.{then-good}
use Rattle.table.specs.declared.row.Row.{Row}
use Rattle.format.specs.Parse.{entries, after_entry, after_pair}
use Rattle.format.specs.Walk.{places_from, walk_entries, pair_at, walk_pairs, pairs_end}
use Rattle.format.proofs.EntryLaws.{entry-good}
use Rattle.format.proofs.Walking.{pairs-forward}
use Rattle.accepted.specs.Entries.{Placed, placed, entries_from, pairs_from, EntriesGood}

module _ (p : List ℕ) where
  -- ---- entries

  module _ (header : ℕ) where
    -- of entries that are good, the first, and those after it
    pub record FirstEntry (left at : ℕ) : Type 0 where
      pub headed : header ≤ u32_at p at
      pub with-nul : 0 < u32_at p (at + 8)
      pub within : at + u32_at p at ≤ length p
      pub others : EntriesGood header p (left - 1) (at + u32_at p at)
      pub is : entries_from p left at ≡ placed p at ∷ entries_from p (left - 1) (at + u32_at p at)

    pub first_entry : (left at : ℕ) → 0 < left → EntriesGood header p left at → FirstEntry left at
    unfolding EntriesGood entries_from places_from
    first_entry zero at more good = absurd (omega arith)
    first_entry (suc left) at more (headed, with-nul, within, others) =
        let fewer : suc left - 1 ≡ left = omega arith in
        record { headed = headed; with-nul = with-nul; within = within; others = rw fewer others; is = rw fewer refl }

    -- those of a run that was checked are good
    pub entries-good :
        (row_of : ℕ → ℕ → Row) (end : ℕ) → end ≤ length p → (count at : ℕ) (rs : List Row) → entries header row_of count p at end ≡ Ok rs → EntriesGood header p count at
    unfolding entries EntriesGood
    entries-good row_of end inside zero at rs e = tt
    entries-good row_of end inside (suc count) at rs e =
        let (n, found, after) = then-good _ _ _ e in
        let (rest, others, all) = then-good _ _ _ after in
        let told = entry-good header p at end n found in
        let there : after_entry header at n ≡ at + u32_at p at = omega (arith, told.size) in (
          omega (arith, told.size, le-aligned (header + wire_size n)),
          omega (arith, told.text),
          omega (arith, told.size, told.within),
          rw there at (entries-good row_of end inside count (after_entry header at n) rest others),
        )

  pub no-entries : (left at : ℕ) → left ≡ 0 → entries_from p left at ≡ []
  unfolding entries_from places_from
  no-entries zero at none = refl
  no-entries (suc left) at none = absurd (omega arith)

  -- ---- pairs

  -- of pairs that end within the payload, the first, and those after it
  pub record FirstPair (left at : ℕ) : Type 0 where
    pub within : after_pair (pair_at p at) ≤ length p
    pub others : pairs_end p (left - 1) (after_pair (pair_at p at)) ≤ length p
    pub is : pairs_from p left at ≡ placed p at ∷ pairs_from p (left - 1) (after_pair (pair_at p at))

  pub first_pair : (left at : ℕ) → 0 < left → pairs_end p left at ≤ length p → FirstPair left at
  unfolding pairs_end pairs_from
  first_pair zero at more good = absurd (omega arith)
  first_pair (suc left) at more good =
      let fewer : suc left - 1 ≡ left = omega arith in
      record { within = omega (arith, good, pairs-forward p left (after_pair (pair_at p at))); others = rw fewer good; is = rw fewer refl }

  pub no-pairs : (left at : ℕ) → left ≡ 0 → pairs_from p left at ≡ []
  unfolding pairs_from
  no-pairs zero at none = refl
  no-pairs (suc left) at none = absurd (omega arith)

  -- the place after a pair, by the lengths that were found
  pub pair_end :
      (at name size value : ℕ) →
      name ≡ until_nul (drop at p) →
      size ≡ wire_size name →
      value ≡ until_nul (drop (at + size) p) →
      at + size + wire_size value ≡ after_pair (pair_at p at)
  pair_end at name size value e f g =
      let there : size ≡ wire_size (until_nul (drop at p)) = f ∙ ap wire_size e in
      rw (g, there) refl

  -- ---- the rows of the walk are those of the entries, and of the pairs

  pub rows-entered : (row_at : List ℕ → ℕ → Row) (count at : ℕ) → walk_entries p (row_at p) count at ≡ map (λ (e : Placed). row_at e.bytes e.at) (entries_from p count at)
  unfolding walk_entries entries_from places_from
  rows-entered row_at zero at = refl
  rows-entered row_at (suc count) at = ap (λ (rows : List Row). row_at p at ∷ rows) (rows-entered row_at count (at + u32_at p at))

  pub rows-paired : (count at : ℕ) → walk_pairs p count at ≡ map (λ (e : Placed). pair_at e.bytes e.at) (pairs_from p count at)
  unfolding walk_pairs pairs_from
  rows-paired zero at = refl
  rows-paired (suc count) at = ap (λ (rows : List Row). pair_at p at ∷ rows) (rows-paired count (after_pair (pair_at p at)))
