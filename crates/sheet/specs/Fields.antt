-- The fields of a line. Numbers are decimal, bytes are hex pairs, and in texts three bytes are escaped. Each is defined as it is shown, whether a
-- field is one, and what it then says.
use Rattle.std.specs.Prelude.{ℕ, ◌+◌, ◌-◌, ◌*◌, ◌/◌, ◌%◌, ◌^◌, Bool, true, false, cond, ◌&&◌, ◌||◌, leb, ltb, eqb}
use mathlib.Core.List.{List, [], ◌∷◌, flat_map}

abbrev pub tab : ℕ
tab = 9

abbrev pub newline : ℕ
newline = 10

abbrev pub backslash : ℕ
backslash = 92

-- whether each element passes
unfoldable pub all : {A : Type 0} → (A → Bool) → List A → Bool
all passes [] = true
all passes (a ∷ rest) = passes a && all passes rest

-- ---- numbers, shown as `decimal` of crate format has them

-- 0 to 9
abbrev pub is_digit : ℕ → Bool
is_digit b = leb 48 b && leb b 57

-- the number that digits spell after a number
unfoldable pub spelt : ℕ → List ℕ → ℕ
spelt n [] = n
spelt n (d ∷ ds) = spelt (10 * n + (d - 48)) ds

abbrev pub number_of : List ℕ → ℕ
number_of field = spelt 0 field

-- digits, the first of which is not 0 where there are more
unfoldable pub is_decimal : List ℕ → Bool
is_decimal [] = false
is_decimal (d ∷ []) = is_digit d
is_decimal (d ∷ e ∷ ds) = ltb 48 d && all is_digit (d ∷ e ∷ ds)

-- at most 4,294,967,295, however many digits are there
unfoldable pub is_number : List ℕ → Bool
is_number field = is_decimal field && ltb (number_of field) (2 ^ 32)

-- ---- bytes

-- the digit of a number below 16: 0 to 9, then a to f
abbrev pub hex_digit : ℕ → ℕ
hex_digit n = cond (ltb n 10) (48 + n) (87 + n)

abbrev pub hex_pair : ℕ → List ℕ
hex_pair b = hex_digit (b / 16) ∷ hex_digit (b % 16) ∷ []

unfoldable pub hex_pairs : List ℕ → List ℕ
hex_pairs bytes = flat_map hex_pair bytes

abbrev pub is_hex_digit : ℕ → Bool
is_hex_digit b = is_digit b || (leb 97 b && leb b 102)

unfoldable pub is_hex_pairs : List ℕ → Bool
is_hex_pairs [] = true
is_hex_pairs (a ∷ []) = false
is_hex_pairs (a ∷ b ∷ rest) = is_hex_digit a && is_hex_digit b && is_hex_pairs rest

-- the number of a digit
abbrev pub hex_value : ℕ → ℕ
hex_value b = cond (leb b 57) (b - 48) (b - 87)

unfoldable pub bytes_of_pairs : List ℕ → List ℕ
bytes_of_pairs [] = []
bytes_of_pairs (a ∷ []) = []
bytes_of_pairs (a ∷ b ∷ rest) = (16 * hex_value a + hex_value b) ∷ bytes_of_pairs rest

-- ---- texts

-- backslash, tab and newline are written as a backslash followed by a backslash, t or n
abbrev pub escaped : ℕ → List ℕ
escaped b =
    cond (eqb b backslash) (backslash ∷ 92 ∷ [])
    (cond (eqb b tab) (backslash ∷ 116 ∷ [])
    (cond (eqb b newline) (backslash ∷ 110 ∷ [])
    (b ∷ [])))

unfoldable pub escape : List ℕ → List ℕ
escape text = flat_map escaped text

-- what may follow a backslash: a backslash, t or n
abbrev pub is_escape : ℕ → Bool
is_escape c = eqb c 92 || eqb c 116 || eqb c 110

-- what a backslash followed by it stands for
abbrev pub meant : ℕ → ℕ
meant c = cond (eqb c 116) tab (cond (eqb c 110) newline backslash)

-- whether each backslash begins an escape
unfoldable pub is_escaped : List ℕ → Bool
is_escaped [] = true
is_escaped (b ∷ []) = elim (eqb b backslash) [ true ↦ false | false ↦ true ]
is_escaped (b ∷ c ∷ rest) = elim (eqb b backslash) [ true ↦ is_escape c && is_escaped rest | false ↦ is_escaped (c ∷ rest) ]

-- the text with its escapes resolved
unfoldable pub unescape : List ℕ → List ℕ
unescape [] = []
unescape (b ∷ []) = b ∷ []
unescape (b ∷ c ∷ rest) = elim (eqb b backslash) [ true ↦ meant c ∷ unescape rest | false ↦ b ∷ unescape (c ∷ rest) ]
