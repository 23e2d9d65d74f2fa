-- What reading a number tells.
use Rattle.std.specs.Prelude.{ℕ, ◌^◌, cond, ◌&&◌, List, ltb, Option, None, Some}
use Rattle.sheet.specs.Fields.{all, is_digit, spelt, number_of, is_number}

abbrev pub number_told : List ℕ → Option ℕ
number_told field = cond (is_number field) (Some (number_of field)) None

-- of digits after a number, whatever the first is; only the code goes this way
abbrev pub spelt_told : ℕ → List ℕ → Option ℕ
spelt_told n digits = cond (all is_digit digits && ltb (spelt n digits) (2 ^ 32)) (Some (spelt n digits)) None
