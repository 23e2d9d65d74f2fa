-- Hexadecimal digits with their letters in upper or in lower case.
use Rattle.std.specs.Prelude.{ℕ, ◌+◌, Bool, cond, ltb}

-- the digit of a number below 16: 0 to 9, then A to F, or a to f
abbrev pub digit_in : Bool → ℕ → ℕ
digit_in upper n = cond (ltb n 10) (48 + n) (cond upper (55 + n) (87 + n))
