-- Which numbers stand for a kind or a compression, and which for none.
use Prim.Native.Nat.{ℕ, zero, suc, ◌≤◌}
use native.Mathlib.Omega.{arith}
use mathlib.Core.Path.{◌≡◌, refl}
use Rattle.layout.specs.declared.section_type.SourceInfoSectionType.TheVariants.{Unknown}
use Rattle.layout.specs.Kinds.{section_type}

pub section_type-unknown : (n : ℕ) → 3 ≤ n → section_type n ≡ Unknown n
section_type-unknown zero h = absurd (omega arith)
section_type-unknown (suc zero) h = absurd (omega arith)
section_type-unknown (suc (suc zero)) h = absurd (omega arith)
section_type-unknown (suc (suc (suc n))) h = refl

pub unknown-least : (n kind : ℕ) → section_type n ≡ Unknown kind → 3 ≤ n
unknown-least zero kind e = absurd cc
unknown-least (suc zero) kind e = absurd cc
unknown-least (suc (suc zero)) kind e = absurd cc
unknown-least (suc (suc (suc n))) kind e = omega arith
