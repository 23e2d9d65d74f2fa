-- The loop of `read_digits`: what the digits to come tell after the number so far is what all of them tell.
use Rattle.std.proofs.Common.{◌≡◌, ◌<◌, ◌^◌, drop}
use Rattle.line_reader.specs.Numbers.{spelt_told}
use Rattle.line_reader.proofs.number.read_digits.Given as goal

abbrev pub invariant-loop-byte : goal.invariant-loop-byte
invariant-loop-byte l = record { small : l.n < 2 ^ 32; told : spelt_told l.n (drop l.byte-index l.field) ≡ spelt_told 0 l.field }
