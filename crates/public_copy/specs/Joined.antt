-- Sections one after the other.
use Rattle.std.specs.Prelude.{ℕ}
use mathlib.Core.List.{List, flat_map}
use Rattle.format.specs.CopyWalk.{section_copy}
use Rattle.accepted.specs.Sections.{Found}

abbrev pub joined : List (List ℕ) → List ℕ
joined sections = flat_map (λ (s : List ℕ). s) sections

-- what a public copy has for a section: its bytes, or none
abbrev pub copied : Found → List ℕ
copied s = joined (section_copy s.bytes s.kind s.at)
