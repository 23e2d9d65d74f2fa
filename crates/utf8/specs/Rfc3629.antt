-- UTF-8 as RFC 3629, section 4, defines it by its grammar:
--
--     UTF8-octets = *( UTF8-char )
--     UTF8-char   = UTF8-1 / UTF8-2 / UTF8-3 / UTF8-4
--     UTF8-1      = %x00-7F
--     UTF8-2      = %xC2-DF UTF8-tail
--     UTF8-3      = %xE0 %xA0-BF UTF8-tail / %xE1-EC 2( UTF8-tail ) /
--                   %xED %x80-9F UTF8-tail / %xEE-EF 2( UTF8-tail )
--     UTF8-4      = %xF0 %x90-BF 2( UTF8-tail ) / %xF1-F3 3( UTF8-tail ) /
--                   %xF4 %x80-8F 2( UTF8-tail )
--     UTF8-tail   = %x80-BF
use Rattle.utf8.specs.declared.Utf8Error.{Utf8Error}
use Rattle.std.specs.Prelude.{ℕ, zero, suc, ◌+◌, List, [], ◌∷◌, Bool, true, false, ◌&&◌, leb, length, Result, Ok, Err, is_ok}

-- a range of byte values, both ends within it
pub record Range : Type 0 where
  pub low : ℕ
  pub high : ℕ

abbrev pub to : ℕ → ℕ → Range
to a b = record { low = a; high = b }

abbrev pub tail : Range
tail = to 0x80 0xBF

-- the alternatives of UTF8-char, in the order of the RFC, each as the ranges of its bytes
abbrev pub alternatives : List (List Range)
alternatives =
    (to 0x00 0x7F ∷ []) ∷
    (to 0xC2 0xDF ∷ tail ∷ []) ∷
    (to 0xE0 0xE0 ∷ to 0xA0 0xBF ∷ tail ∷ []) ∷
    (to 0xE1 0xEC ∷ tail ∷ tail ∷ []) ∷
    (to 0xED 0xED ∷ to 0x80 0x9F ∷ tail ∷ []) ∷
    (to 0xEE 0xEF ∷ tail ∷ tail ∷ []) ∷
    (to 0xF0 0xF0 ∷ to 0x90 0xBF ∷ tail ∷ tail ∷ []) ∷
    (to 0xF1 0xF3 ∷ tail ∷ tail ∷ tail ∷ []) ∷
    (to 0xF4 0xF4 ∷ to 0x80 0x8F ∷ tail ∷ tail ∷ []) ∷
    []

abbrev pub within : Range → ℕ → Bool
within r b = leb r.low b && leb b r.high

-- whether bytes begin with one byte of each range, in order
unfoldable pub begins : List Range → List ℕ → Bool
begins [] s = true
begins (r ∷ rs) [] = false
begins (r ∷ rs) (b ∷ s) = within r b && begins rs s

-- the length of the first alternative that the bytes begin with, 0 where they begin with none
unfoldable pub first_length : List (List Range) → List ℕ → ℕ
first_length [] s = 0
first_length (rs ∷ rest) s = elim (begins rs s) [ true ↦ length rs | false ↦ first_length rest s ]

-- the length of the UTF8-char that the bytes begin with, 0 where they begin with none
unfoldable pub char_length : List ℕ → ℕ
char_length s = first_length alternatives s

-- bytes that are well formed up to a place, at which the first ill-formed sequence begins
abbrev pub ill_formed : ℕ → Result (Unit {0}) Utf8Error
ill_formed at = Err (record { valid_up_to = at })

-- Reads the bytes from place at on as UTF8-octets, the first skip of them being the rest of a character
-- that was met already: the place at which no UTF8-char begins, if there is one.
unfoldable pub octets_from : ℕ → ℕ → List ℕ → Result (Unit {0}) Utf8Error
octets_from skip at [] = Ok tt
octets_from (suc skip) at (b ∷ s) = octets_from skip (at + 1) s
octets_from zero at (b ∷ s) = elim (char_length (b ∷ s)) [ zero ↦ ill_formed at | suc n ↦ octets_from n (at + 1) s ]

-- whether the bytes are UTF8-octets, or the place at which the first ill-formed sequence begins
unfoldable pub utf8_of : List ℕ → Result (Unit {0}) Utf8Error
utf8_of s = octets_from 0 0 s

-- whether the bytes are UTF8-octets
unfoldable pub well_formed : List ℕ → Bool
well_formed s = is_ok (utf8_of s)
