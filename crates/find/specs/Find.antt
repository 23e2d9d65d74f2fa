-- Where a byte is found that passes a test.
use Rattle.std.specs.Prelude.{ℕ, suc, Bool, true, false, List, [], ◌∷◌, eqb}
use Rattle.std.specs.List.{list_any}

-- how many bytes stand before the first that passes; all of them where none does
unfoldable pub until : (ℕ → Bool) → List ℕ → ℕ
until passes [] = 0
until passes (b ∷ s) = elim (passes b) [ true ↦ 0 | false ↦ suc (until passes s) ]

-- whether a byte is one of some
abbrev pub is_any : List ℕ → ℕ → Bool
is_any sought b = list_any (eqb b) sought
