-- What an answer of the reader says of the definition that it is taken from.
-- Assumes nothing.
use Rattle.std.specs.Prelude.{Err, Ok}
use Prim.Native.Nat.{ℕ, ◌+◌}
use mathlib.Core.List.{List}
use mathlib.Core.Path.{◌≡◌, ap, sym}
use Rattle.wire.specs.Number.{u16_at}
use Rattle.layout.specs.Checked.{Checked}
use Rattle.layout.specs.Kinds.{section_type}
use Rattle.section_reader.specs.Section.{section_found}
use Rattle.section_reader.specs.declared.section.Section.{Section}

module _ (p : List ℕ) (at : ℕ) where
  -- a section that was found is the one of its size that the header there tells of
  pub record Header (c : Checked ℕ) (s : Section) : Type 0 where
    pub sized : c ≡ Ok s.size
    pub placed : s.at ≡ at
    pub of-kind : s.kind ≡ section_type (u16_at p (at + 6))

  pub section-found : (c : Checked ℕ) (s : Section) → section_found p at c ≡ Ok s → Header c s
  section-found (Err r) s e = absurd cc
  section-found (Ok n) s e =
      let q : ◌≡◌ {A = Section} (record { kind = section_type (u16_at p (at + 6)); at = at; size = n }) s = cc in
      record { sized = ap (λ (t : Section). Ok t.size) q; placed = ap (λ (t : Section). t.at) (sym q); of-kind = ap (λ (t : Section). t.kind) (sym q) }
