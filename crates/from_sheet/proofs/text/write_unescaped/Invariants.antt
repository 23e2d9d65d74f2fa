-- The loop of `write_unescaped`: what the rest of the field says is left to store.
use Rattle.std.proofs.Common.{length}
use Rattle.format.proofs.Storing.{Left}
use Rattle.sheet.specs.Fields.{unescape}
use Rattle.from_sheet.proofs.text.write_unescaped.Given as goal

abbrev pub invariant-loop-rest : goal.invariant-loop-rest
invariant-loop-rest l = Left l.initial.output l.at (unescape l.field) l.output l.to (unescape l.rest)

abbrev pub decreases-loop-rest : goal.decreases-loop-rest
decreases-loop-rest l = length l.rest
