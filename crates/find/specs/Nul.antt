-- Where a text ends on the wire: at its terminator, the first NUL.
use Rattle.std.specs.Prelude.{ℕ, Bool, cond, Option, Some, None, List, [], ◌∷◌, ltb, length}
use Rattle.find.specs.Find.{until, is_any}

-- how many bytes stand before the first NUL; all of them where there is none
unfoldable pub until_nul : List ℕ → ℕ
until_nul s = until (is_any (0 ∷ [])) s

-- whether there is a NUL
abbrev pub has_nul : List ℕ → Bool
has_nul s = ltb (until_nul s) (length s)

-- the place of the first NUL, if there is one
abbrev pub first_nul : List ℕ → Option ℕ
first_nul s = cond (has_nul s) (Some (until_nul s)) None
