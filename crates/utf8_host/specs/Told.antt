-- What C is told of a text: 0 where it is well formed, else 1; and the place of the first ill-formed sequence, in place of what was there.
use Rattle.utf8.specs.declared.Utf8Error.{Utf8Error}
use Rattle.std.specs.Prelude.{ℕ, Result, Ok, Err}

abbrev pub number : Result (Unit {0}) Utf8Error → ℕ
number (Ok a) = 0
number (Err error) = 1

abbrev pub place : Result (Unit {0}) Utf8Error → ℕ → ℕ
place (Ok a) old = old
place (Err error) old = error.valid_up_to
