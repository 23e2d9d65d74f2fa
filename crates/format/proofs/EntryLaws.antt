-- What an entry and a run of entries say where they are good; and an entry of which all that is said is good.
-- Assumes nothing.
use Rattle.std.specs.Prelude.{Ok}
use Prim.Native.Nat.{ℕ, zero, suc, ◌+◌, ◌-◌, ◌*◌, ◌≤◌}
use mathlib.Core.List.{List, [], ◌∷◌}
use mathlib.Core.Bool.{true}
use mathlib.Core.Path.{◌≡◌, refl, ap, ◌∙◌}
use native.Mathlib.Omega.{arith}
use borrow.Author.Tests.{leb-true, ltb-true, eqb-true, le-leb, lt-ltb, eq-eqb}
use lib.ListN.{length}
use Rattle.wire.specs.Length.{wire_size}
use Rattle.wire.specs.Number.{byte_at, u32_at}
use Rattle.wire.specs.Padding.{padding, aligned, all_zero}
use Rattle.wire.proofs.PaddingLaws.{aligned-by-arithmetic, le-aligned}
use Rattle.table.specs.declared.row.Row.{Row}
use Rattle.layout.specs.TextCheck.{check_text}
use Rattle.layout.specs.Spans.{part}
use Rattle.layout.proofs.Checked.{check-good, then-good, check-passes, then-passes}
use Rattle.format.specs.Parse.{terminated_text, entry, after_entry, entries}

-- ---- an entry

-- what an entry whose text has a length is where it is good
pub record Entry (header : ℕ) (p : List ℕ) (at end n : ℕ) : Type 0 where
  -- it ends within its bytes, and its header has no flags, its text's size and its own
  pub within : at + aligned (header + wire_size n) ≤ end
  pub flags : u32_at p (at + 4) ≡ 0
  pub text : u32_at p (at + 8) ≡ wire_size n
  pub size : u32_at p at ≡ aligned (header + wire_size n)
  -- its text passes the check, and has a NUL and zeros after it
  pub checked : check_text p (at + header) n ≡ Ok tt
  pub closed : byte_at p (at + header + n) ≡ 0
  pub padded : all_zero (part p (at + header + wire_size n) (padding (header + wire_size n))) ≡ true

module _ (header : ℕ) (p : List ℕ) (at end n : ℕ) where
  pub entry-good : entry header p at end ≡ Ok n → Entry header p at end n
  unfolding entry terminated_text
  entry-good e =
      let long = check-good _ _ _ _ e in
      let no-flags = check-good _ _ _ _ long.1 in
      let some = check-good _ _ _ _ no-flags.1 in
      let sized = check-good _ _ _ _ some.1 in
      let inside = check-good _ _ _ _ sized.1 in
      let (done, held, found) = then-good _ _ _ inside.1 in
      let closed = check-good _ _ _ _ held in
      let (passed, text-good, after) = then-good _ _ _ closed.1 in
      let zeros = check-good _ _ _ _ after in
      let last : u32_at p (at + 8) - 1 ≡ n = cc in
      let text : u32_at p (at + 8) ≡ wire_size n = omega (arith, ltb-true) in
      record {
        within = rw (← text) (leb-true _ _ inside.0);
        flags = eqb-true _ _ no-flags.0;
        text = text;
        size = rw (← text) (eqb-true _ _ sized.0);
        checked = rw (← last) text-good;
        closed = rw (← last) (eqb-true _ _ closed.0);
        padded = rw (← text) zeros.0;
      }

  pub entry_found : Entry header p at end n → entry header p at end ≡ Ok n
  unfolding entry terminated_text
  entry_found g =
      let last : wire_size n - 1 ≡ n = omega arith in
      rw (g.text, last)
      (check-passes _ _ _ (le-leb (at + header) end (omega (arith, g.within, le-aligned (header + wire_size n))))
      (check-passes _ _ _ (eq-eqb (u32_at p (at + 4)) 0 g.flags)
      (check-passes _ _ _ (lt-ltb 0 (wire_size n) (omega arith))
      (check-passes _ _ _ (eq-eqb (u32_at p at) (aligned (header + wire_size n)) g.size)
      (check-passes _ _ _ (le-leb (at + aligned (header + wire_size n)) end g.within)
      (then-passes _ _
      (check-passes _ _ _ (eq-eqb (byte_at p (at + header + n)) 0 g.closed)
      (then-passes _ _ g.checked (check-passes _ _ _ g.padded refl)))
      refl))))))

-- ---- entries

module _ (header : ℕ) (p : List ℕ) (end : ℕ) where
  -- a good run is none at its end, or a good entry before a good run
  pub entries_none : (row_of : ℕ → ℕ → Row) (at : ℕ) (rs : List Row) → entries header row_of 0 p at end ≡ Ok rs → (at ≡ end) × (rs ≡ [])
  unfolding entries
  entries_none row_of at rs e =
      let ended = check-good _ _ _ _ e in
      (eqb-true at end ended.0, cc ended.1)

  pub entries-first :
      (row_of : ℕ → ℕ → Row) (count at : ℕ) (rs : List Row) →
      entries header row_of (suc count) p at end ≡ Ok rs →
      (n : ℕ) × (rest : List Row) × (entry header p at end ≡ Ok n) × (entries header row_of count p (after_entry header at n) end ≡ Ok rest) × (rs ≡ row_of at n ∷ rest)
  unfolding entries
  entries-first row_of count at rs e =
      let (n, first, after) = then-good _ _ _ e in
      let (rest, others, found) = then-good _ _ _ after in
      (n, rest, first, others, cc)

  -- a row for every entry, and at least 2 bytes for every row
  pub entries-bound : (row_of : ℕ → ℕ → Row) (count at : ℕ) (rs : List Row) → entries header row_of count p at end ≡ Ok rs → (at + 2 * length rs ≤ end) × (length rs ≡ count)
  entries-bound row_of zero at rs e =
      let none = entries_none row_of at rs e in
      (omega (arith, none.0, ap length none.1), ap length none.1)
  entries-bound row_of (suc count) at rs e =
      let first = entries-first row_of count at rs e in
      let n = first.0 in
      let rest = entries-bound row_of count (after_entry header at n) first.1 first.3 in
      let size = aligned-by-arithmetic (header + wire_size n) in
      (omega (arith, ap length first.4, rest.0), ap length first.4 ∙ ap suc rest.1)
