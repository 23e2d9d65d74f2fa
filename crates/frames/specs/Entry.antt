-- A name and a pair by their parts.
use Rattle.std.specs.Prelude.{ℕ, List}
use Rattle.format.specs.Sections.{Name, Pair}

abbrev pub name : List ℕ → ℕ → Name
name text content_size = record { text = text; content_size = content_size }

abbrev pub pair : List ℕ → List ℕ → Pair
pair key value = record { name = key; value = value }
