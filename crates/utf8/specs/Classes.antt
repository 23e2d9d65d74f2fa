-- The class of a byte value: the place, from 0, of the first alternative of UTF8-char in RFC 3629 that the byte can
-- begin. Past all of them comes the class of UTF8-tail, and last that of the bytes that no rule has.
use Rattle.std.specs.Prelude.{ℕ, zero, suc, ◌<◌, ◌≡◌, List, [], ◌∷◌, Bool, true, false, Option, Some, None, length, get_or}
use Rattle.utf8.specs.Rfc3629.{Range, tail, alternatives, within, begins}

-- whether a byte can begin an alternative
abbrev pub opens : List Range → ℕ → Bool
opens [] b = false
opens (r ∷ rs) b = within r b

unfoldable pub place_in : List (List Range) → ℕ → ℕ
place_in [] b = elim (within tail b) [ true ↦ 0 | false ↦ 1 ]
place_in (rs ∷ rest) b = elim (opens rs b) [ true ↦ 0 | false ↦ suc (place_in rest b) ]

unfoldable pub class_of : ℕ → ℕ
class_of b = place_in alternatives b

-- a list that has the class of each byte value at its place
pub record ClassTable (table : List ℕ) : Type 0 where
  pub entry : (b : ℕ) → b < 256 → get_or table b 0 ≡ class_of b

-- the length of a character whose first byte was met and whose other bytes have the ranges rs, 0 where s does not
-- begin with such bytes
unfoldable pub length_after : List Range → List ℕ → ℕ
length_after rs s = elim (begins rs s) [ true ↦ suc (length rs) | false ↦ 0 ]

-- a length, where it is not that of nothing
abbrev pub nonzero : ℕ → Option ℕ
nonzero zero = None
nonzero (suc n) = Some (suc n)
