-- The loop of `later_field`: so many parts are passed.
use Rattle.std.proofs.Common.{◌≡◌}
use Rattle.line_reader.specs.Ends.{end_from}
use Rattle.line_reader.proofs.split_line.SplitLine.later_field.Given as goal

abbrev pub invariant-loop-passed : goal.invariant-loop-passed
invariant-loop-passed l = l.end ≡ end_from l.self.line.now 0 l.passed
