-- How many bytes a field says; only the code goes this way.
use Rattle.std.specs.Prelude.{ℕ, ◌+◌, Bool, cond, List, length, Option, None, Some}
use Rattle.sheet.specs.Fields.{is_hex_pairs, bytes_of_pairs, is_escaped, unescape}

-- a size, where a test holds
abbrev pub size_told : Bool → ℕ → Option ℕ
size_told good n = cond good (Some n) None

abbrev pub bytes_told : List ℕ → Option ℕ
bytes_told field = size_told (is_hex_pairs field) (length (bytes_of_pairs field))

-- of a text after so many bytes
abbrev pub text_told : ℕ → List ℕ → Option ℕ
text_told n field = size_told (is_escaped field) (n + length (unescape field))
