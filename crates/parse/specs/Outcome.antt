-- What the steps of the first pass answer: of a value that was found, only what the next step needs.
use Rattle.wire.specs.declared.length.TextLength.{TextLength}
use Rattle.std.specs.Prelude.{ℕ, ◌+◌, List, length}
use Rattle.layout.specs.Checked.{Checked, taking}
use Rattle.table.specs.declared.row.Row.{Row}

-- a text by its length
abbrev pub maybe_text : Checked ℕ → Checked TextLength
maybe_text = taking (λ n. record { 0 = n })

-- the place that comes after what was found
abbrev pub place_of : {A : Type 0} → (A → ℕ) → Checked A → Checked ℕ
place_of = taking

-- rows by their number
abbrev pub counted : Checked (List Row) → Checked ℕ
counted = taking length

-- so many rows more; a refusal stays
abbrev pub add : ℕ → Checked ℕ → Checked ℕ
add k = taking (λ n. k + n)
