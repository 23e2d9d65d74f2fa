-- A table and its rows: what other crates need of `rows_of`, `table_of` and `store_row`.
use Prim.Native.Nat.{ℕ, zero, suc, ◌+◌, ◌*◌, ◌/◌, ◌%◌, ◌<◌, ◌≤◌}
use native.Mathlib.Omega.{arith}
use native.Mathlib.Nat.{suc-mul}
use native.Mathlib.Numerals.{add-one, towards_suc}
use mathlib.Core.Bool.{Bool, true, false, cond}
use mathlib.Core.Path.{◌≡◌, refl, sym, ap, ◌∙◌}
use mathlib.Core.List.{List, [], ◌∷◌, ◌++◌, map, flat_map, append-nil}
use borrow.Author.Tests.{lt-ltb, le-ltb}
use lib.Dec.{ltb, lit<, leb-suc-suc}
use lib.ListN.{length, get_or, get_or-eq_default, get_or-map, set, drop, length-append, length-drop, drop_of_length-le}
use lib.Seq.{sets, length-sets, sets-eq, drop-cons, take-append_seam, drop-append-add, drop-drop}
use Rattle.table.specs.declared.row.Row.{Row}
use Rattle.table.specs.Rows.{width, row, no_row, row_at, row_of, rows_of, numbers_of, table_of, store_row}
use Rattle.std.specs.Simd.{first_chunks}
use Rattle.layout.proofs.Lists.{flat_map-append}

-- A table is whole rows, and at its end fewer numbers than a row has. Each law of `rows_of` goes by this.
data Whole : List ℕ → Type 0 where
  rest : {t : List ℕ} → length t < width → rows_of t ≡ [] → Whole t
  next : (r : Row) {t : List ℕ} → Whole t → Whole (numbers_of r ++ t)

whole : (t : List ℕ) → Whole t
unfolding rows_of
whole [] = rest (lit< tt) refl
whole (t ∷ []) = rest (lit< tt) refl
whole (t ∷ s ∷ []) = rest (lit< tt) refl
whole (t ∷ s ∷ a ∷ []) = rest (lit< tt) refl
whole (t ∷ s ∷ a ∷ b ∷ []) = rest (lit< tt) refl
whole (t ∷ s ∷ a ∷ b ∷ c ∷ []) = rest (lit< tt) refl
whole (t ∷ s ∷ a ∷ b ∷ c ∷ d ∷ []) = rest (lit< tt) refl
whole (t ∷ s ∷ a ∷ b ∷ c ∷ d ∷ e ∷ u) = next (row t s a b c d e) (whole u)

pub length-rows_of : (t : List ℕ) → length (rows_of t) ≡ length t / width
unfolding rows_of
length-rows_of t = go (whole t)
  where
    go : {u : List ℕ} → Whole u → length (rows_of u) ≡ length u / width
    go (rest h e) = rw e (omega arith)
    go (next r w) = let ih = go w in omega arith

-- the whole rows of a table are counted by its numbers
pub ruleset rows_counted = (length-rows_of)

-- the row at an index is the seven numbers from seven times the index on
pub get_or-rows_of : (t : List ℕ) (i : ℕ) → i < length t / width → get_or (rows_of t) i no_row ≡ row_at t (i * width)
unfolding rows_of
get_or-rows_of t i h = go (whole t) i h
  where
    go : {u : List ℕ} → Whole u → (k : ℕ) → k < length u / width → get_or (rows_of u) k no_row ≡ row_at u (k * width)
    go (rest h e) k l = absurd (omega arith)
    go (next r w) zero l = refl
    go (next r w) (suc k) l = go w k (omega arith) ∙ simp (suc-mul, towards_suc)

-- the rows of a table are those of its chunks
pub rows-chunks : (t : List ℕ) → map row_of (first_chunks width (length t / width) t) ≡ rows_of t
unfolding rows_of
rows-chunks t = go (whole t)
  where
    go : {u : List ℕ} → Whole u → map row_of (first_chunks width (length u / width) u) ≡ rows_of u
    go (rest {t = u} h e) = let none : length u / width ≡ 0 = omega arith in rw (none, e) refl
    go (next r {t = u} w) =
        let more : length (numbers_of r ++ u) / width ≡ suc (length u / width) = omega arith in
        rw more (ap (λ (l : List Row). r ∷ l) (go w))

-- the row at an index is that of the chunk there
pub chunk-row :
    (t : List ℕ) (i : ℕ) (chunks : List (List ℕ)) →
    chunks ≡ first_chunks width (length t / width) t →
    row_of (get_or chunks i []) ≡ get_or (rows_of t) i no_row
chunk-row t i chunks f = rw (f, ← rows-chunks t) (sym (get_or-map row_of _ i []))

-- the rows from an index on: the row there, and those after it
pub next-row : (t : List ℕ) (i : ℕ) → i < length (rows_of t) → drop i (rows_of t) ≡ get_or (rows_of t) i no_row ∷ drop (i + 1) (rows_of t)
next-row t i h = rw add-one (drop-cons (rows_of t) i no_row h)

pub no-row : (t : List ℕ) (i : ℕ) → length (rows_of t) ≤ i → drop i (rows_of t) ≡ []
no-row t i h = drop_of_length-le (rows_of t) {i = i} h

-- past the last whole row there is none
pub past-row : (t : List ℕ) (i : ℕ) → length t / width ≤ i → get_or (rows_of t) i no_row ≡ no_row
past-row t i h = get_or-eq_default (rows_of t) no_row (rw (length-rows_of t) h)

-- what holds of every number of a table holds of every number of its rows
pub record EveryNumber (P : ℕ → Type 0) (r : Row) : Type 0 where
  pub tag : P r.tag
  pub side : P r.side
  pub a : P r.a
  pub b : P r.b
  pub c : P r.c
  pub d : P r.d
  pub e : P r.e

pub every-number : (P : ℕ → Type 0) (t : List ℕ) → ((k : ℕ) → P (get_or t k 0)) → (i : ℕ) → i < length t / width → EveryNumber P (get_or (rows_of t) i no_row)
every-number P t h i l =
    let at : ℕ = i * width in
    rw (get_or-rows_of t i l)
    (record { tag = h at; side = h (at + 1); a = h (at + 2); b = h (at + 3); c = h (at + 4); d = h (at + 5); e = h (at + 6) })

pub table_of-append : (a b : List Row) → table_of (a ++ b) ≡ table_of a ++ table_of b
unfolding table_of
table_of-append a b = flat_map-append numbers_of a b

pub length-table_of : (rs : List Row) → length (table_of rs) ≡ length rs * width
unfolding table_of flat_map
length-table_of [] = refl
length-table_of (r ∷ rs) = let ih = length-table_of rs in omega arith

-- rows, and whatever numbers follow them
pub rows_of-table_of-append : (rs : List Row) (t : List ℕ) → rows_of (table_of rs ++ t) ≡ rs ++ rows_of t
unfolding table_of flat_map rows_of
rows_of-table_of-append [] t = refl
rows_of-table_of-append (r ∷ rs) t = ap (λ (l : List Row). r ∷ l) (rows_of-table_of-append rs t)

pub rows_of-table_of : (rs : List Row) → rows_of (table_of rs) ≡ rs
unfolding rows_of
rows_of-table_of rs = ap rows_of (sym (append-nil (table_of rs))) ∙ rows_of-table_of-append rs [] ∙ append-nil rs

pub table_of-rows_of : (t : List ℕ) → length t % width ≡ 0 → table_of (rows_of t) ≡ t
unfolding rows_of table_of flat_map
table_of-rows_of t h = go (whole t) h
  where
    go : {u : List ℕ} → Whole u → length u % width ≡ 0 → table_of (rows_of u) ≡ u
    go (rest {t = u} l e) m = ap table_of e ∙ sym (drop_of_length-le {A = ℕ} u {i = 0} (omega arith))
    go (next r w) m = ap (λ (l : List ℕ). numbers_of r ++ l) (go w (omega arith))

pub length-store_row : (t : List ℕ) (i : ℕ) (r : Row) → length (store_row t i r) ≡ length t
unfolding store_row
length-store_row t i r = go (ltb i (length t / width))
  where
    go : (b : Bool) → length (cond b (sets t (i * width) (numbers_of r)) t) ≡ length t
    go true = length-sets t (i * width) (numbers_of r)
    go false = refl

-- to store a row in the table is to store it among the rows
pub rows_of-store_row : (t : List ℕ) (i : ℕ) (r : Row) → rows_of (store_row t i r) ≡ set (rows_of t) i r
unfolding rows_of store_row
rows_of-store_row t i r = go (whole t) i
  where
    -- whichever way the test goes, the first row stays in front
    under :
        (q : Row) (test : Bool) (a b : List ℕ) →
        rows_of (cond test (numbers_of q ++ a) (numbers_of q ++ b)) ≡ q ∷ rows_of (cond test a b)
    under q true a b = refl
    under q false a b = refl

    go : {u : List ℕ} → Whole u → (k : ℕ) → rows_of (store_row u k r) ≡ set (rows_of u) k r
    go (rest {t = u} h e) k = simp (le-ltb k (length u / width) (omega arith), e)
    go (next q {t = u} w) zero = simp (lt-ltb 0 (length (numbers_of q ++ u) / width) (omega arith))
    go (next q {t = u} w) (suc k) =
        let more : length (numbers_of q ++ u) / width ≡ suc (length u / width) = omega arith in
        simp (more, leb-suc-suc, suc-mul, towards_suc)
        (under q (ltb k (length u / width)) (sets u (k * width) (numbers_of r)) u ∙ ap (λ (l : List Row). q ∷ l) (go w k))

-- Numbers stored after those that a table begins with. The rest of the table stays as it was.
sets-next :
    (front new t : List ℕ) →
    length front + length new ≤ length t →
    sets (front ++ drop (length front) t) (length front) new ≡ (front ++ new) ++ drop (length front + length new) t
sets-next front new t h =
    let room : length front + length new ≤ length (front ++ drop (length front) t) =
    simp (length-append, length-drop) (omega arith) in
    simp (sets-eq new (front ++ drop (length front) t) (length front) room, take-append_seam, drop-append-add, drop-drop)

-- the step of a loop that fills a table from its start
pub store-next :
    (rs : List Row) (r : Row) (t : List ℕ) →
    length rs < length t / width →
    store_row (table_of rs ++ drop (length rs * width) t) (length rs) r
    ≡ table_of (rs ++ (r ∷ [])) ++ drop ((length rs + 1) * width) t
unfolding store_row table_of flat_map
store-next rs r t h =
    let inside : length rs < length (table_of rs ++ drop (length rs * width) t) / width =
    simp (length-append, length-drop, length-table_of) (omega arith) in
    let step : (length rs + 1) * width ≡ length rs * width + width = omega arith in
    rw (lt-ltb _ _ inside, table_of-append rs (r ∷ []), step)
    (rw (← length-table_of rs) (sets-next (table_of rs) (numbers_of r) t (rw (length-table_of rs) (omega arith))))
