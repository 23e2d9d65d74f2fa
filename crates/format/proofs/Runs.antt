-- Runs, of entries or of pairs: a run is good exactly where the bytes of its items stand one after the other, up to its end, and then its rows are
-- theirs.
-- Assumes nothing.
use Rattle.std.specs.Prelude.{Ok}
use Prim.Native.Nat.{ℕ, zero, suc, ◌+◌, ◌≤◌}
use mathlib.Core.List.{List, [], ◌∷◌, flat_map}
use mathlib.Core.Path.{◌≡◌, refl, sym, ap, ◌∙◌}
use native.Mathlib.Omega.{arith}
use borrow.Author.Tests.{eq-eqb, eqb-true}
use lib.ListN.{length, length-append}
use Rattle.layout.specs.Checked.{Checked}
use Rattle.table.specs.declared.row.Row.{Row}
use Rattle.layout.proofs.Checked.{check-good, then-good, check-passes, then-passes}
use Rattle.format.specs.Parse.{entry, after_entry, entries, pair, after_pair, pairs}
use Rattle.format.specs.WellFormed.{All}
use Rattle.format.proofs.EntryLaws.{entries_none, entries-first}
use Rattle.format.proofs.PlacedRows.{rows_of_run}
use Rattle.format.proofs.Stands.{Stands, stands-none, stands-first, stands-next, stands-join}

module _ {X : Type 0} (one : ℕ → Checked X) (next : ℕ → X → ℕ) (row_of : ℕ → X → Row) (end : ℕ) where
  -- so many items from a place on, each of which `one` finds, up to the end
  abbrev pub Run : ℕ → ℕ → List Row → Type 0
  Run zero at rs = (at ≡ end) × (rs ≡ [])
  Run (suc count) at rs = (x : X) × (rest : List Row) × (one at ≡ Ok x) × Run count (next at x) rest × (rs ≡ row_of at x ∷ rest)

-- ---- the two runs of reading

module _ (p : List ℕ) (end : ℕ) where
  module _ (header : ℕ) (row_of : ℕ → ℕ → Row) where
    abbrev EntryRun : ℕ → ℕ → List Row → Type 0
    EntryRun = Run (λ at. entry header p at end) (after_entry header) row_of end

    pub entries-run : (count at : ℕ) (rs : List Row) → entries header row_of count p at end ≡ Ok rs → EntryRun count at rs
    entries-run zero at rs e = entries_none header p end row_of at rs e
    entries-run (suc count) at rs e =
        let (n, rest, first, others, same) = entries-first header p end row_of count at rs e in
        (n, rest, first, entries-run count (after_entry header at n) rest others, same)

    pub run-entries : (count at : ℕ) (rs : List Row) → EntryRun count at rs → entries header row_of count p at end ≡ Ok rs
    unfolding entries
    run-entries zero at rs (e, same) = check-passes _ _ _ (eq-eqb at end e) (ap Ok (sym same))
    run-entries (suc count) at rs (n, rest, first, others, same) =
        then-passes _ _ first (then-passes _ _ (run-entries count (after_entry header at n) rest others) (ap Ok (sym same)))

  abbrev PairRun : ℕ → ℕ → List Row → Type 0
  PairRun = Run (λ at. pair p at end) (λ at r. after_pair r) (λ at r. r) end

  pub pairs-run : (count at : ℕ) (rs : List Row) → pairs count p at end ≡ Ok rs → PairRun count at rs
  unfolding pairs
  pairs-run zero at rs e =
      let ended = check-good _ _ _ _ e in
      (eqb-true at end ended.0, cc ended.1)
  pairs-run (suc count) at rs e =
      let (r, first, after) = then-good _ _ _ e in
      let (rest, others, found) = then-good _ _ _ after in
      (r, rest, first, pairs-run count (after_pair r) rest others, cc)

  pub run-pairs : (count at : ℕ) (rs : List Row) → PairRun count at rs → pairs count p at end ≡ Ok rs
  unfolding pairs
  run-pairs zero at rs (e, same) = check-passes _ _ _ (eq-eqb at end e) (ap Ok (sym same))
  run-pairs (suc count) at rs (r, rest, first, others, same) =
      then-passes _ _ first (then-passes _ _ (run-pairs count (after_pair r) rest others) (ap Ok (sym same)))

-- ---- items and their bytes

-- what a good run of so many items from a place up to an end is
pub record Items {A : Type 0} (p : List ℕ) (bytes : A → List ℕ) (row_at : ℕ → A → Row) (Good : A → Type 0) (count at end : ℕ) (rs : List Row) : Type 0 where
  pub items : List A
  pub stand : Stands p at (flat_map bytes items)
  pub ok : All Good items
  pub many : length items ≡ count
  pub ends : at + length (flat_map bytes items) ≡ end
  pub rows : rs ≡ rows_of_run bytes row_at at items

module _ {A X : Type 0} (p : List ℕ) (bytes : A → List ℕ) (row_at : ℕ → A → Row) (Good : A → Type 0) (one : ℕ → Checked X) (next : ℕ → X → ℕ) (row_of : ℕ → X → Row) (end : ℕ) where
  -- what `one` finds at a place is an item
  abbrev pub Same : ℕ → X → A → Type 0
  Same at x a = (next at x ≡ at + length (bytes a)) × (row_of at x ≡ row_at at a)

  -- a row before the others, where they go on from the next place
  row_first :
      (at : ℕ) (x : X) (a : A) (items : List A) →
      Same at x a →
      row_of at x ∷ rows_of_run bytes row_at (next at x) items ≡ rows_of_run bytes row_at at (a ∷ items)
  unfolding rows_of_run
  row_first at x a items (there, row) = rw (there, row)

  pub run-items :
      ((at : ℕ) (x : X) → one at ≡ Ok x → (a : A) × Stands p at (bytes a) × Good a × Same at x a) →
      (count at : ℕ) (rs : List Row) →
      Run one next row_of end count at rs →
      Items p bytes row_at Good count at end rs
  unfolding flat_map rows_of_run
  run-items item zero at rs (e, same) = record { items = []; stand = stands-none p at; ok = tt; many = refl; ends = omega arith; rows = same }
  run-items item (suc count) at rs (x, rest, first, others, same) =
      let (a, here, ok, is) = item at x first in
      let after = run-items item count (next at x) rest others in
      let items : List A = after.items in
      record {
        items = a ∷ items;
        stand = stands-join p at (bytes a) (flat_map bytes items) (next at x) is.0 here after.stand;
        ok = (ok, after.ok);
        many = ap suc after.many;
        ends = omega (arith, after.ends, is.0, length-append (bytes a) (flat_map bytes items));
        rows = same ∙ ap (λ (l : List Row). row_of at x ∷ l) after.rows ∙ row_first at x a items is;
      }

  pub items-run :
      ((at : ℕ) (a : A) → Good a → at + length (bytes a) ≤ end → Stands p at (bytes a) → (x : X) × (one at ≡ Ok x) × Same at x a) →
      (items : List A) (at : ℕ) →
      All Good items →
      at + length (flat_map bytes items) ≡ end →
      Stands p at (flat_map bytes items) →
      Run one next row_of end (length items) at (rows_of_run bytes row_at at items)
  unfolding flat_map rows_of_run
  items-run item [] at oks e s = (omega arith, refl)
  items-run item (a ∷ items) at (ok, oks) e s =
      let sizes = length-append (bytes a) (flat_map bytes items) in
      let (x, found, is) = item at a ok (omega arith) (stands-first p at (bytes a) (flat_map bytes items) s) in
      let others = items-run item items (next at x) oks (omega (arith, is.0)) (stands-next p at (bytes a) (flat_map bytes items) (next at x) is.0 s) in
      (x, rows_of_run bytes row_at (next at x) items, found, others, sym (row_first at x a items is))
