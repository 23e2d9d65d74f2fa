-- What reading answers and leaves in the table, by what the payload's definition gives and by how many rows the table holds.
-- Assumes nothing.
use Rattle.std.specs.Prelude.{Err, Ok}
use Prim.Native.Nat.{ℕ, ◌*◌, ◌/◌, ◌≤◌, ◌<◌}
use mathlib.Core.List.{List, ◌++◌}
use mathlib.Core.Path.{◌≡◌}
use borrow.Author.Tests.{le-leb, lt-leb}
use lib.ListN.{length, drop}
use Rattle.table.specs.Rows.{width, table_of}
use Rattle.table.specs.declared.row.Row.{Row}
use Rattle.layout.specs.declared.refusal.Refusal.{Refusal}
use Rattle.layout.specs.declared.refusal.Refusal.TheVariants.{NoRows}
use Rattle.format.specs.Parse.{parse}
use Rattle.format.specs.Read.{rows_answer, table_after, read_answer, read_table}

module _ (p t : List ℕ) where
  pub refused : {r : Refusal} → parse p ≡ Err r → (read_answer p (length t) ≡ Err r) × (read_table p t ≡ t)
  unfolding read_answer read_table rows_answer table_after
  refused e = (rw e, rw e)

  pub too_few : {rs : List Row} → parse p ≡ Ok rs → length t / width < length rs → (read_answer p (length t) ≡ Err (NoRows (length rs))) × (read_table p t ≡ t)
  unfolding read_answer read_table rows_answer table_after
  too_few {rs} e h = (rw (e, lt-leb (length rs) (length t / width) h), rw (e, lt-leb (length rs) (length t / width) h))

  pub held : {rs : List Row} → parse p ≡ Ok rs → length rs ≤ length t / width → (read_answer p (length t) ≡ Ok (length rs)) × (read_table p t ≡ table_of rs ++ drop (length rs * width) t)
  unfolding read_answer read_table rows_answer table_after
  held {rs} e h = (rw (e, le-leb (length rs) (length t / width) h), rw (e, le-leb (length rs) (length t / width) h))
