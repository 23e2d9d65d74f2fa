-- The content sizes of names that were copied, over which those of empty contents are stored.
use Rattle.std.specs.Prelude.{ℕ, ◌+◌, List, [], ◌∷◌}
use Rattle.std.proofs.lemmas.List.Edits.{sets}
use Rattle.wire.specs.Number.{u32_at}
use Rattle.format.specs.Encoding.{u32}
use Rattle.accepted.specs.Entries.{Placed}

-- how many bytes entries take
unfoldable pub span : List Placed → ℕ
span [] = 0
span (e ∷ names) = u32_at e.bytes e.at + span names

-- an output, in which entries stand from a place on, with 1 for each content size
unfoldable pub hidden : List ℕ → ℕ → List Placed → List ℕ
hidden output to [] = output
hidden output to (e ∷ names) = hidden (sets output (to + 12) (u32 1)) (to + u32_at e.bytes e.at) names
