-- The three runs of the layout, of contents, of names and of pairs: each is good exactly where the bytes of its items stand up to its end.
-- Assumes nothing.
use Rattle.std.specs.Prelude.{Ok}
use Prim.Native.Nat.{ℕ, ◌+◌, ◌≤◌}
use mathlib.Core.List.{List, [], flat_map}
use mathlib.Core.Path.{◌≡◌, refl, sym, ap}
use native.Mathlib.Omega.{arith}
use lib.ListN.{length}
use Rattle.wire.specs.Number.{u32_at}
use Rattle.wire.specs.Length.{wire_size}
use Rattle.wire.proofs.PaddingLaws.{le-aligned}
use Rattle.layout.specs.Spans.{part}
use Rattle.table.specs.declared.row.Row.{Row}
use Rattle.format.specs.Encoding.{u32, limit, content_entry, name_entry, pair_entry}
use Rattle.format.specs.Parse.{entry, after_entry, entries, content_row_at, name_row_at, pair, after_pair, pairs}
use Rattle.format.specs.Sections.{Name, Pair}
use Rattle.format.specs.WellFormed.{Bytes, All, Text, NameOk, PairOk}
use Rattle.format.proofs.Encoding.{length-pair_entry}
use Rattle.format.proofs.EntryLaws.{entry-good}
use Rattle.format.proofs.EntryBytes.{content-is, name-is, name-header, entry-stands, stands-entry}
use Rattle.format.proofs.PairBytes.{pair-stands, stands-pair}
use Rattle.format.proofs.PlacedRows.{content_placed, name_placed, pair_placed, rows_of_run}
use Rattle.format.proofs.Runs.{entries-run, run-entries, pairs-run, run-pairs, Items, run-items, items-run}
use Rattle.format.proofs.Stands.{Stands, stands-none, number-below, spelt, spells}

-- ---- reading finds items

module _ (p : List ℕ) (end : ℕ) (inside : end ≤ length p) (bytes : Bytes p) (count at : ℕ) (rs : List Row) where
  pub contents-items : entries 12 content_row_at count p at end ≡ Ok rs → Items p content_entry content_placed Text count at end rs
  contents-items e = run-items p content_entry content_placed Text _ _ _ end item count at rs (entries-run p end 12 content_row_at count at rs e)
    where
      item :
          (at n : ℕ) →
          entry 12 p at end ≡ Ok n →
          (text : List ℕ)
          × Stands p at (content_entry text)
          × Text text
          × ((after_entry 12 at n ≡ at + length (content_entry text)) × (content_row_at at n ≡ content_placed at text))
      item at n f =
          let (here, ok, size, there) = entry-stands 12 [] refl p at end inside bytes (stands-none p (at + 12)) n f in
          (part p (at + 12) n, rw content-is here, ok, (rw content-is there, ap (content_row_at at) (sym size)))

  pub names-items : entries 16 (name_row_at p) count p at end ≡ Ok rs → Items p name_entry name_placed NameOk count at end rs
  names-items e = run-items p name_entry name_placed NameOk _ _ _ end item count at rs (entries-run p end 16 (name_row_at p) count at rs e)
    where
      item :
          (at n : ℕ) →
          entry 16 p at end ≡ Ok n →
          (x : Name) × Stands p at (name_entry x) × NameOk x × ((after_entry 16 at n ≡ at + length (name_entry x)) × (name_row_at p at n ≡ name_placed at x))
      item at n f =
          let size : ℕ = u32_at p (at + 12) in
          let g = entry-good 16 p at end n f in
          let mid : Stands p (at + 12) (u32 size) = spelt p bytes 4 (at + 12) (omega (arith, g.within, le-aligned (16 + wire_size n))) in
          let (here, ok, same, there) = entry-stands 16 (u32 size) (name-header size) p at end inside bytes mid n f in (
            record { text = part p (at + 16) n; content_size = size },
            rw name-is here,
            record { text = ok; size = number-below p bytes 4 (at + 12) },
            (rw name-is there, ap (name_row_at p at) (sym same)),
          )

  pub pairs-items : pairs count p at end ≡ Ok rs → Items p pair_entry pair_placed PairOk count at end rs
  pairs-items e = run-items p pair_entry pair_placed PairOk _ _ _ end item count at rs (pairs-run p end count at rs e)
    where
      item :
          (at : ℕ) (r : Row) →
          pair p at end ≡ Ok r →
          (x : Pair) × Stands p at (pair_entry x) × PairOk x × ((after_pair r ≡ at + length (pair_entry x)) × (r ≡ pair_placed at x))
      item at r f =
          let (x, here, ok, same) = pair-stands p at end inside r f in
          (x, here, ok, (omega (arith, ap after_pair same, length-pair_entry x), same))

-- ---- and the bytes of items are found

module _ (p : List ℕ) (end : ℕ) (inside : end ≤ length p) (small : length p ≤ limit) (at : ℕ) where
  pub items-contents :
      (texts : List (List ℕ)) →
      All Text texts →
      at + length (flat_map content_entry texts) ≡ end →
      Stands p at (flat_map content_entry texts) →
      entries 12 content_row_at (length texts) p at end ≡ Ok (rows_of_run content_entry content_placed at texts)
  items-contents texts oks e s =
      run-entries p end 12 content_row_at (length texts) at _ (items-run p content_entry content_placed Text _ _ _ end item texts at oks e s)
    where
      item :
          (at : ℕ) (text : List ℕ) →
          Text text →
          at + length (content_entry text) ≤ end →
          Stands p at (content_entry text) →
          (n : ℕ) × (entry 12 p at end ≡ Ok n) × ((after_entry 12 at n ≡ at + length (content_entry text)) × (content_row_at at n ≡ content_placed at text))
      item at text ok within s =
          let (found, mid, there) = stands-entry 12 [] refl p at end inside small text ok (rw content-is at within) (rw content-is at s) in
          (length text, found, (rw content-is there, refl))

  pub items-names :
      (ns : List Name) →
      All NameOk ns →
      at + length (flat_map name_entry ns) ≡ end →
      Stands p at (flat_map name_entry ns) →
      entries 16 (name_row_at p) (length ns) p at end ≡ Ok (rows_of_run name_entry name_placed at ns)
  items-names ns oks e s =
      run-entries p end 16 (name_row_at p) (length ns) at _ (items-run p name_entry name_placed NameOk _ _ _ end item ns at oks e s)
    where
      item :
          (at : ℕ) (x : Name) →
          NameOk x →
          at + length (name_entry x) ≤ end →
          Stands p at (name_entry x) →
          (n : ℕ) × (entry 16 p at end ≡ Ok n) × ((after_entry 16 at n ≡ at + length (name_entry x)) × (name_row_at p at n ≡ name_placed at x))
      item at x ok within s =
          let size : ℕ = x.content_size in
          let (found, mid, there) =
          stands-entry 16 (u32 size) (name-header size) p at end inside small x.text ok.text (rw name-is at within) (rw name-is at s) in
          (length x.text, found, (rw name-is there, rw (spells p 4 (at + 12) size ok.size mid)))

  pub items-pairs :
      (xs : List Pair) →
      All PairOk xs →
      at + length (flat_map pair_entry xs) ≡ end →
      Stands p at (flat_map pair_entry xs) →
      pairs (length xs) p at end ≡ Ok (rows_of_run pair_entry pair_placed at xs)
  items-pairs xs oks e s = run-pairs p end (length xs) at _ (items-run p pair_entry pair_placed PairOk _ _ _ end item xs at oks e s)
    where
      item :
          (at : ℕ) (x : Pair) →
          PairOk x →
          at + length (pair_entry x) ≤ end →
          Stands p at (pair_entry x) →
          (r : Row) × (pair p at end ≡ Ok r) × ((after_pair r ≡ at + length (pair_entry x)) × (r ≡ pair_placed at x))
      item at x ok within s = (pair_placed at x, stands-pair p at end inside x ok within s, (omega (arith, length-pair_entry x), refl))
