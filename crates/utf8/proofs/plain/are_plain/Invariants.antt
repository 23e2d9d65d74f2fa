-- The loop of `are_plain`: the answer is that of the bytes that were passed.
use Rattle.std.proofs.Common.{◌≡◌, take}
use Rattle.utf8.specs.Plain.{are_plain}
use Rattle.utf8.proofs.plain.are_plain.Given as goal

abbrev pub invariant-loop-byte : goal.invariant-loop-byte
invariant-loop-byte l = l.plain ≡ are_plain (take l.byte-index l.bytes)
