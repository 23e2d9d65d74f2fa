-- What follows the backslash that a byte is written with; None where it stands for itself.
use Rattle.std.specs.Prelude.{ℕ, cond, eqb, Option, Some, None}
use Rattle.sheet.specs.Fields.{tab, newline, backslash}

abbrev pub letter_of : ℕ → Option ℕ
letter_of b = cond (eqb b tab) (Some 116) (cond (eqb b newline) (Some 110) (cond (eqb b backslash) (Some backslash) None))
