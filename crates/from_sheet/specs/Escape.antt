-- Whether bytes begin with a backslash and a byte after it.
use Rattle.std.specs.Prelude.{ℕ, Bool, ◌&&◌, List, eqb, ltb, length, get_or}
use Rattle.sheet.specs.Fields.{backslash}

abbrev pub is_pair : List ℕ → Bool
is_pair s = eqb (get_or s 0 0) backslash && ltb 1 (length s)
