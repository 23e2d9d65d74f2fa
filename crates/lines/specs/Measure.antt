-- Measuring, line by line: each line is checked, and then counted. It is how the pass goes; that it comes to the length of a sheet's payload is a theorem
-- (proofs/Measured.antt).
use Rattle.std.specs.Prelude.{ℕ, ◌+◌, ◌≡◌, ◌<◌, List, [], ◌∷◌, eqb, length, Some}
use Rattle.layout.specs.Checked.{Checked, check, then}
use Rattle.format.specs.Records.{text}
use Rattle.sheet.specs.Fields.{newline}
use Rattle.sheet.specs.FromSheet.{bad_line}
use Rattle.sheet.specs.Lines.{parts, split, read_line}
use Rattle.sizes.specs.Measure.{advance, finish}
use Rattle.sizes.specs.declared.sizes.Sizes.{Sizes}

-- a first line, and what follows its newline
pub record IsFirst (s line after : List ℕ) : Type 0 where
  pub is : split newline s ≡ parts line ((split newline after).first ∷ (split newline after).rest)
  pub shorter : length after < length s

-- lines from a number on
unfoldable pub measure_lines : ℕ → Sizes → List ℕ → List (List ℕ) → Checked ℕ
measure_lines n m last [] = check (eqb (length last) 0) (bad_line n) (λ _. finish m)
measure_lines n m first (next ∷ rest) =
    then (read_line (bad_line n) m.previous first) (λ r.
    measure_lines (n + 1) (advance m (Some r.tag) (length (text 0 r)) (length (text 1 r))) next rest)
