-- Bytes that a text can have anywhere, and that need no decoding.
use Rattle.std.specs.Prelude.{ℕ, Bool, List, ◌&&◌, ltb}
use Rattle.std.specs.List.{list_all}

-- ASCII and no NUL
abbrev pub is_plain : ℕ → Bool
is_plain b = ltb 0 b && ltb b 0x80

-- all of them
abbrev pub are_plain : List ℕ → Bool
are_plain s = list_all is_plain s
