-- Numbers on the wire are little-endian: the least significant byte comes first.
use Rattle.std.specs.Prelude.{ℕ, zero, suc, ◌+◌, ◌*◌, ◌/◌, ◌%◌, List, [], ◌∷◌, get_or, drop}

-- the byte at a place; past the end it is 0
abbrev pub byte_at : List ℕ → ℕ → ℕ
byte_at p at = get_or p at 0

-- the number that the first bytes spell, as many as width says; bytes that are lacking count as 0
unfoldable pub little_endian : ℕ → List ℕ → ℕ
little_endian zero s = 0
little_endian (suc width) [] = 0
little_endian (suc width) (b ∷ s) = b + 256 * little_endian width s

-- the number of two bytes, and of four, at a place
abbrev pub u16_at : List ℕ → ℕ → ℕ
u16_at p at = little_endian 2 (drop at p)

abbrev pub u32_at : List ℕ → ℕ → ℕ
u32_at p at = little_endian 4 (drop at p)

-- a number as bytes, as many as width says
unfoldable pub bytes_of : ℕ → ℕ → List ℕ
bytes_of zero n = []
bytes_of (suc width) n = n % 256 ∷ bytes_of width (n / 256)
