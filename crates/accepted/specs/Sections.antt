-- The sections of a payload as their headers tell of them, where they stand by the walk over an accepted payload.
use Rattle.std.specs.Prelude.{ℕ, List, map}
use Rattle.wire.specs.Number.{u16_at}
use Rattle.layout.specs.declared.section_type.SourceInfoSectionType.{SourceInfoSectionType}
use Rattle.format.specs.Parse.{kind_at}
use Rattle.format.specs.Walk.{places_from}

-- a section of a payload: its kind, and where it stands
pub record Found : Type 0 where
  pub bytes : List ℕ
  pub kind : SourceInfoSectionType
  pub at : ℕ

-- the section at a place
abbrev pub section_at : List ℕ → ℕ → Found
section_at p at = record { bytes = p; kind = kind_at p at; at = at }

-- so many sections, the first of which stands at a place
unfoldable pub sections_from : List ℕ → ℕ → ℕ → List Found
sections_from p count at = map (section_at p) (places_from p count at)

-- all of a payload's
abbrev pub sections : List ℕ → List Found
sections p = sections_from p (u16_at p 6) 8
