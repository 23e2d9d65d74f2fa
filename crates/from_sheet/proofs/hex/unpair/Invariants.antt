-- The loop of `unpair`: the first bytes are those of the first pairs.
use Rattle.std.proofs.Common.{◌≡◌, take}
use Rattle.sheet.specs.Fields.{bytes_of_pairs}
use Rattle.from_sheet.proofs.hex.unpair.Given as goal

abbrev pub invariant-loop-i : goal.invariant-loop-i
invariant-loop-i l = take l.i l.bytes ≡ take l.i (bytes_of_pairs l.field)
