-- The loop of `write_sections`: what holds before a turn is `Turns.antt`'s `Turn`.
use Rattle.std.proofs.Common.{◌-◌, length}
use Rattle.write.specs.Source.{rows}
use Rattle.write.proofs.Turns.{Turn}
use Rattle.write.proofs.source_info.write_sections.Given as goal

abbrev pub invariant-loop-position : goal.invariant-loop-position
invariant-loop-position l = Turn l.source.sides.payload.now l.source.sides.edit.now (rows l.source) l.fn.output l.position l.sections l.output

abbrev pub decreases-loop-position : goal.decreases-loop-position
decreases-loop-position l = length (rows l.source) - l.position.index
