-- The loop of `bytes_size`: the answer so far and the bytes to come tell whether the field is hex pairs.
use Rattle.std.proofs.Common.{◌≡◌, ◌&&◌, drop}
use Rattle.sheet.specs.Fields.{all, is_hex_digit, is_hex_pairs}
use Rattle.line_reader.proofs.bytes.bytes_size.Given as goal

abbrev pub invariant-loop-byte : goal.invariant-loop-byte
invariant-loop-byte l = (l.good && all is_hex_digit (drop l.byte-index l.field)) ≡ is_hex_pairs l.field
