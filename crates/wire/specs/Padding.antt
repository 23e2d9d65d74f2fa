-- Padding brings a length to a multiple of 4 with zero bytes.
use Rattle.std.specs.Prelude.{ℕ, ◌+◌, ◌%◌, List, [], ◌∷◌, Bool, true, false, eqb, get_or}

-- how many zero bytes follow a length: by its remainder 0, 1, 2, 3 they are 0, 3, 2, 1
unfoldable pub padding : ℕ → ℕ
padding n = get_or (0 ∷ 3 ∷ 2 ∷ 1 ∷ []) (n % 4) 0

-- a length with its padding
unfoldable pub aligned : ℕ → ℕ
aligned n = n + padding n

-- whether every byte is 0
unfoldable pub all_zero : List ℕ → Bool
all_zero [] = true
all_zero (b ∷ s) = elim (eqb b 0) [ true ↦ all_zero s | false ↦ false ]
