-- The listing of sections, as the `Display` of srci.rs prints it: a line that counts them, then a line for each.
use Rattle.std.specs.Prelude.{ℕ, zero, suc, ◌+◌, ◌/◌, ◌%◌, true, false, cond, List, [], ◌∷◌, ◌++◌, map, ltb, length}
use Prim.Native.Char.{code}
use Prim.Native.String.{String, [] as none, ◌∷◌ as cons}
use Rattle.format.specs.Sections.{Section, plain, packed, names, arguments, unknown}

-- a text of ASCII as bytes
unfoldable pub ascii : String → List ℕ
ascii none = []
ascii (cons c s) = code c ∷ ascii s

-- the digit of a number below 16: 0 to 9, then A to F
abbrev pub digit : ℕ → ℕ
digit n = cond (ltb n 10) (48 + n) (55 + n)

-- a number in decimal, without leading zeros, in at most so many digits
unfoldable pub decimal_within : ℕ → ℕ → List ℕ
decimal_within zero n = []
decimal_within (suc digits) n = elim (ltb n 10) [ true ↦ digit n ∷ [] | false ↦ decimal_within digits (n / 10) ++ (digit (n % 10) ∷ []) ]

abbrev pub decimal : ℕ → List ℕ
decimal n = decimal_within (suc n) n

-- the last so many digits of a number in hexadecimal
unfoldable pub hex : ℕ → ℕ → List ℕ
hex zero n = []
hex (suc places) n = hex places (n / 16) ++ (digit (n % 16) ∷ [])

-- ---- what the line of each kind of section says after its place

abbrev pub plain_line : ℕ → List ℕ
plain_line count = ascii "SourceContents: " ++ (decimal count ++ ascii " uncompressed file(s)")

abbrev pub packed_line : ℕ → ℕ → List ℕ
packed_line count bytes = ascii "SourceContents: " ++ (decimal count ++ (ascii " zlib file(s), " ++ (decimal bytes ++ ascii " bytes")))

abbrev pub names_line : ℕ → List ℕ
names_line count = ascii "SourceNames: " ++ (decimal count ++ ascii " file(s)")

abbrev pub arguments_line : ℕ → List ℕ
arguments_line count = ascii "Arguments: " ++ (decimal count ++ ascii " pair(s)")

abbrev pub unknown_line : ℕ → ℕ → List ℕ
unknown_line kind bytes = ascii "Unknown(0x" ++ (hex 4 kind ++ (ascii "): " ++ (decimal bytes ++ ascii " bytes")))

unfoldable pub described : Section → List ℕ
described (plain header texts) = plain_line (length texts)
described (packed header stream count uncompressed) = packed_line count (length stream)
described (names ns) = names_line (length ns)
described (arguments ps) = arguments_line (length ps)
described (unknown kind bytes) = unknown_line kind (length bytes)

-- ---- the lines

-- the first line, of so many sections
abbrev pub heading : ℕ → List ℕ
heading count = ascii "// Shader Source Info: " ++ (decimal count ++ ascii " section(s)\n")

-- a section's line, at a place, of what is said of it
abbrev pub line : ℕ → List ℕ → List ℕ
line place text = ascii "//   [" ++ (decimal place ++ (ascii "] " ++ (text ++ ascii "\n")))

-- a line for each text, the first of which has a place
unfoldable pub lines : ℕ → List (List ℕ) → List ℕ
lines place [] = []
lines place (text ∷ texts) = line place text ++ lines (place + 1) texts

-- a line that counts texts, then a line for each
unfoldable pub page : List (List ℕ) → List ℕ
page texts = heading (length texts) ++ lines 0 texts

unfoldable pub display : List Section → List ℕ
display ss = page (map described ss)
