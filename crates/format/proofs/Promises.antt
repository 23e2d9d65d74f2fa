-- The promises of specs/Promises.antt, each proved under its name.
-- Assumes nothing.
use Rattle.std.specs.Prelude.{Err, Ok, is_ok}
use Prim.Native.Nat.{ℕ, ◌*◌, ◌/◌, ◌^◌, ◌≤◌, ◌<◌}
use mathlib.Core.Bool.{Bool, true, false, cond}
use mathlib.Core.List.{List, [], ◌∷◌, ◌++◌}
use mathlib.Core.Path.{◌≡◌, refl, ap}
use native.Mathlib.Omega.{arith}
use borrow.Author.Tests.{leb-true}
use lib.Dec.{leb}
use lib.ListN.{length, get_or, drop}
use Rattle.layout.specs.Checked.{Checked}
use Rattle.table.specs.Rows.{width, no_row, rows_of, table_of}
use Rattle.table.proofs.Rows.{length-rows_of, every-number}
use Rattle.table.specs.declared.row.Row.{Row}
use Rattle.layout.specs.declared.refusal.Refusal.{Refusal}
use Rattle.format.specs.Output.{answer, output_after}
use Rattle.format.specs.Parse.{parse}
use Rattle.format.specs.Promises.{PayloadSize, RefusedLeavesTable, RefusedLeavesOutput, AcceptedStoresRows, AcceptedStoresBytes, MostRows, AcceptedWhateverTable, RefusedWhateverTable, Placed, Fits32, RowsInside, WordsFit}
use Rattle.format.specs.Read.{accepted, holds, read_answer, read_table, rows_answer, table_after}
use Rattle.format.specs.WellFormed.{All}
use Rattle.format.proofs.Answers.{held}
use Rattle.format.proofs.EarlyFaults.{reading-refuses}
use Rattle.format.proofs.Encoding.{encode-least, encode-multiple}
use Rattle.layout.proofs.Checked.{is-good}
use Rattle.format.proofs.Output.{room}
use Rattle.format.proofs.RowCount.{parse-count}
use Rattle.format.proofs.RowsByTag.{all_found}
use Rattle.format.proofs.RowsPlaced.{rows-placed}

pub payload-size : PayloadSize
payload-size ss = (encode-least ss, encode-multiple ss)

-- where the room decided, only a refusal keeps what was lent
kept :
    {A : Type 0} (fits : Bool) (count : ℕ) (lacking refusal : Refusal) (new lent : A) →
    cond fits (Ok count) (Err lacking) ≡ Err refusal →
    cond fits new lent ≡ lent
kept true count lacking refusal new lent e = absurd cc
kept false count lacking refusal new lent e = refl

pub refused-leaves-table : RefusedLeavesTable
unfolding read_answer read_table rows_answer table_after
refused-leaves-table p table refusal e = go (parse p) e
  where
    go : (c : Checked (List Row)) → rows_answer c (length table) ≡ Err refusal → table_after c table ≡ table
    go (Err r) f = refl
    go (Ok rows) f = kept (holds (length table) rows) _ _ refusal _ table f

pub refused-leaves-output : RefusedLeavesOutput
unfolding answer output_after
refused-leaves-output (Err r) output refusal e = refl
refused-leaves-output (Ok bytes) output refusal e = kept (leb (length bytes) (length output)) _ _ refusal _ output e

-- where the room decided, only enough of it accepts
stored :
    (fits : Bool) (size count : ℕ) (lacking : Refusal) →
    cond fits (Ok size) (Err lacking) ≡ Ok count →
    (fits ≡ true) × (size ≡ count)
stored true size count lacking e = (refl, cc)
stored false size count lacking e = absurd cc

pub accepted-stores-rows : AcceptedStoresRows
unfolding read_answer rows_answer
accepted-stores-rows p table count e = go (parse p) refl e
  where
    go :
        (c : Checked (List Row)) →
        parse p ≡ c →
        rows_answer c (length table) ≡ Ok count →
        (rows : List Row)
        × (parse p ≡ Ok rows)
        × (length rows ≡ count)
        × (count * width ≤ length table)
        × (read_table p table ≡ table_of rows ++ drop (count * width) table)
    go (Err r) f g = absurd cc
    go (Ok rows) f g =
        let (fits, size) = stored (holds (length table) rows) (length rows) count _ g in
        let room = leb-true (length rows) (length table / width) fits in
        (rows, f, size, omega arith, rw (← size) (held p table f room).1)

pub accepted-stores-bytes : AcceptedStoresBytes
unfolding answer
accepted-stores-bytes (Err r) output count e = absurd cc
accepted-stores-bytes (Ok bytes) output count e =
    let (fits, size) = stored (leb (length bytes) (length output)) (length bytes) count _ e in
    let enough = leb-true (length bytes) (length output) fits in
    (bytes, refl, size, omega arith, rw (← size) (room (Ok bytes) output refl enough).1)

pub most-rows : MostRows
most-rows p rows e = omega (arith, parse-count p rows e)

pub accepted-whatever-table : AcceptedWhateverTable
unfolding accepted read_answer rows_answer
accepted-whatever-table p e =
    let found = is-good (parse p) e in
    (found.0, found.1, λ numbers. ap (λ (c : Checked (List Row)). rows_answer c numbers) found.1)

refusal-of : {A : Type 0} (c : Checked A) → is_ok c ≡ false → (r : Refusal) × (c ≡ Err r)
refusal-of (Err r) e = (r, refl)
refusal-of (Ok a) e = absurd cc

pub refused-whatever-table : RefusedWhateverTable
unfolding accepted read_answer rows_answer
refused-whatever-table p e =
    let (r, found) = refusal-of (parse p) e in
    let ((least, most), second) = reading-refuses p r found in
    (r, least, most, second, λ numbers. ap (λ (c : Checked (List Row)). rows_answer c numbers) found)

pub rows_inside : RowsInside
rows_inside p rows bytes e = split rows (rows-placed p rows bytes e)
  where
    split : (rs : List Row) → All (λ (r : Row). Placed p r × Fits32 r) rs → All (Placed p) rs × All Fits32 rs
    split [] h = (tt, tt)
    split (r ∷ rs) ((placed, fit), rest) = let others = split rs rest in ((placed, others.0), (fit, others.1))

pub words-fit : WordsFit
words-fit table words = all_found Fits32 no_row (rows_of table) fits
  where
    fits : (i : ℕ) → i < length (rows_of table) → Fits32 (get_or (rows_of table) i no_row)
    fits i h =
        let below = every-number (λ (n : ℕ). n < 2 ^ 32) table words i (omega (arith, length-rows_of table)) in
        omega (arith, below)
