-- The entries and the pairs of a section that was checked, one after the other.
use Rattle.std.specs.Prelude.{ℕ, zero, suc, ◌+◌, ◌≤◌, ◌<◌, length}
use mathlib.Core.List.{List, [], ◌∷◌, map}
use Rattle.wire.specs.Number.{u32_at}
use Rattle.format.specs.Parse.{after_pair}
use Rattle.format.specs.Walk.{places_from, pair_at}

-- an entry or a pair of a payload: where it stands
pub record Placed : Type 0 where
  pub bytes : List ℕ
  pub at : ℕ

abbrev pub placed : List ℕ → ℕ → Placed
placed p at = record { bytes = p; at = at }

-- so many entries, the first of which stands at a place
unfoldable pub entries_from : List ℕ → ℕ → ℕ → List Placed
entries_from p count at = map (placed p) (places_from p count at)

-- so many pairs
unfoldable pub pairs_from : List ℕ → ℕ → ℕ → List Placed
pairs_from p zero at = []
pairs_from p (suc count) at = placed p at ∷ pairs_from p count (after_pair (pair_at p at))

-- entries with a header of so many bytes that were checked: each has its header and a text with a NUL, and ends within the payload
unfoldable pub EntriesGood : ℕ → List ℕ → ℕ → ℕ → Type 0
EntriesGood header p zero at = Unit {0}
EntriesGood header p (suc count) at =
    (header ≤ u32_at p at) × (0 < u32_at p (at + 8)) × (at + u32_at p at ≤ length p) × EntriesGood header p count (at + u32_at p at)
