-- What the rest of the text is written as is left to store.
use Rattle.std.proofs.Common.{◌+◌, ◌*◌, ◌≤◌, length}
use Rattle.format.proofs.Storing.{Left}
use Rattle.sheet.specs.Fields.{escape}
use Rattle.field_writer.proofs.text.write_escaped.Given as goal

abbrev pub invariant-loop-rest : goal.invariant-loop-rest
invariant-loop-rest l = record {
  most : l.to + 2 * length l.rest ≤ l.at + 2 * length l.text;
  left : Left l.initial.output l.at (escape l.text) l.output l.to (escape l.rest);
}

abbrev pub decreases-loop-rest : goal.decreases-loop-rest
decreases-loop-rest l = length l.rest
