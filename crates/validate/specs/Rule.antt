-- The local rule of UTF-8: whether a byte is right after the three bytes before it, which count as 0 before a text's start. It asks nothing but
-- comparisons of a byte and its neighbours, so that all places of a block can be looked at in one go.
use Rattle.std.specs.Prelude.{◌≡◌, ℕ, suc, Bool, cond, not, ◌&&◌, ◌||◌, List, [], ◌∷◌, ◌==◌, nat_le, slice_index}
use Rattle.utf8.specs.Rfc3629.{Range, to, tail, within, well_formed}

-- whether a byte has to continue a character, after p3, p2, p1: C2 and up begin one of two bytes or more, E0 and up one of three or
-- more, F0 and up one of four
unfoldable pub due : ℕ → ℕ → ℕ → Bool
due p3 p2 p1 = nat_le 0xC2 p1 || nat_le 0xE0 p2 || nat_le 0xF0 p3

-- the bytes that may continue a character right after a byte: after E0 and F0 no overlong form, after ED no surrogate, after F4 nothing above
-- U+10FFFF
unfoldable pub follows : ℕ → Range
follows p1 =
    cond (p1 == 0xE0) (to 0xA0 0xBF)
    (cond (p1 == 0xED) (to 0x80 0x9F)
    (cond (p1 == 0xF0) (to 0x90 0xBF)
    (cond (p1 == 0xF4) (to 0x80 0x8F) tail)))

-- the bytes that begin a character
unfoldable pub leads : ℕ → Bool
leads b = within (to 0x00 0x7F) b || within (to 0xC2 0xF4) b

-- whether a byte is right after p3, p2, p1
unfoldable pub right : ℕ → ℕ → ℕ → ℕ → Bool
right p3 p2 p1 b = cond (due p3 p2 p1) (within (follows p1) b) (leads b)

-- every byte is right after those before it, and no character is open at the end
unfoldable pub right_from : ℕ → ℕ → ℕ → List ℕ → Bool
right_from p3 p2 p1 [] = not (due p3 p2 p1)
right_from p3 p2 p1 (b ∷ s) = right p3 p2 p1 b && right_from p2 p1 b s

unfoldable pub ruled : List ℕ → Bool
ruled s = right_from 0 0 0 s

-- the same by places of a text: whether the byte at a place is right, and whether a character is open before a place
abbrev pub padded : List ℕ → List ℕ
padded s = 0 ∷ 0 ∷ 0 ∷ s

unfoldable pub right_at : List ℕ → ℕ → Bool
right_at s i = right (slice_index (padded s) i) (slice_index (padded s) (suc i)) (slice_index (padded s) (suc (suc i))) (slice_index (padded s) (suc (suc (suc i))))

unfoldable pub open_at : List ℕ → ℕ → Bool
open_at s i = due (slice_index (padded s) i) (slice_index (padded s) (suc i)) (slice_index (padded s) (suc (suc i)))

-- the promise: the rule is RFC 3629's
abbrev pub RuleIsGrammar : Type 0
RuleIsGrammar = (s : List ℕ) → ruled s ≡ well_formed s
