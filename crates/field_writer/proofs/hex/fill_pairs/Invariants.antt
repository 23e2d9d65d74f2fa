-- The loop of `fill_pairs`: the first pairs are those of the first bytes.
use Rattle.std.proofs.Common.{◌≡◌, ◌*◌, take}
use Rattle.sheet.specs.Fields.{hex_pairs}
use Rattle.field_writer.proofs.hex.fill_pairs.Given as goal

abbrev pub invariant-loop-i : goal.invariant-loop-i
invariant-loop-i l = take (2 * l.i) l.to ≡ hex_pairs (take l.i l.bytes)
