-- Rows stored one after the other, in two parts and from a table's start on.
-- Assumes nothing.
use Prim.Native.Nat.{ℕ, ◌+◌, ◌*◌, ◌/◌, ◌≤◌}
use mathlib.Core.List.{List, [], ◌∷◌, ◌++◌, flat_map, append_assoc, append-nil}
use mathlib.Core.Path.{◌≡◌, sym, ap, ◌∙◌}
use native.Mathlib.Nat.{zero-add, add-zero}
use native.Mathlib.Omega.{arith}
use lib.ListN.{length, drop, length-append}
use Rattle.table.specs.Rows.{width, table_of, store_row}
use Rattle.table.specs.declared.row.Row.{Row}
use Rattle.table.proofs.Rows.{store-next}
use Rattle.read.specs.Store.{store_rows}

pub store_rows-append : (table : List ℕ) (index : ℕ) (a b : List Row) → store_rows table index (a ++ b) ≡ store_rows (store_rows table index a) (index + length a) b
unfolding store_rows
store_rows-append table index [] b = rw add-zero
store_rows-append table index (r ∷ a) b =
    let next : index + 1 + length a ≡ index + length (r ∷ a) = omega arith in
    store_rows-append (store_row table index r) (index + 1) a b ∙ ap (λ (i : ℕ). store_rows (store_rows (store_row table index r) (index + 1) a) i b) next

-- a row more
pub row-stored :
    (far : List Row) (before : List ℕ) (start : ℕ) (row : Row) {rows after : List ℕ} {index : ℕ} →
    rows ≡ store_rows before start far →
    index ≡ start + length far →
    after ≡ store_row rows index row →
    after ≡ store_rows before start (far ++ row ∷ [])
unfolding store_rows
row-stored far before start row stored there next = next ∙ rw (stored, there) (sym (store_rows-append before start far (row ∷ [])))

-- rows stored after those that a table begins with
store-on :
    (front rs : List Row) (table : List ℕ) →
    length front + length rs ≤ length table / width →
    store_rows (table_of front ++ drop (length front * width) table) (length front) rs
    ≡ table_of (front ++ rs) ++ drop ((length front + length rs) * width) table
unfolding store_rows
store-on front [] table h = rw (append-nil, add-zero)
store-on front (r ∷ rs) table h =
    let one : length (front ++ r ∷ []) ≡ length front + 1 = length-append front (r ∷ []) in
    let all : (front ++ r ∷ []) ++ rs ≡ front ++ r ∷ rs = append_assoc front (r ∷ []) rs in
    let sum : length front + 1 + length rs ≡ length front + length (r ∷ rs) = omega arith in
    rw (store-next front r table (omega arith), ← all, ← sum, ← one) (store-on (front ++ r ∷ []) rs table (omega arith))

-- rows stored from a table's start on: the table is theirs, and after them as it was
pub stored-from-start :
    (rs : List Row) (table : List ℕ) → length rs ≤ length table / width → store_rows table 0 rs ≡ table_of rs ++ drop (length rs * width) table
unfolding table_of flat_map
stored-from-start rs table h = rw zero-add at (store-on [] rs table (omega arith))
