-- The loop of `parse_sections`: the reader is over the payload, and what has been passed is as SectionTurns.antt says.
use Rattle.std.proofs.Common.{◌≡◌}
use Rattle.parse.proofs.SectionTurns.{Passed}
use Rattle.parse.proofs.source_info.parse_sections.Given as goal

abbrev pub invariant-loop-done : goal.invariant-loop-done
invariant-loop-done l = record { same : l.reader.payload.now ≡ l.payload; passed : Passed l.payload l.count l.reader.at l.rows l.done }
