-- The loop of `hide_sizes`: what is left is to be hidden, and stands within the limit.
use Rattle.std.proofs.Common.{◌≡◌, ◌+◌, ◌≤◌}
use Rattle.format.specs.Encoding.{limit}
use Rattle.public_copy.specs.Hidden.{span, hidden}
use Rattle.public_copy.proofs.names.hide_sizes.Given as goal

abbrev pub invariant-loop-entry : goal.invariant-loop-entry
invariant-loop-entry l = record {
  room : l.to + span l.entry-iterator ≤ limit;
  rest : hidden l.output l.to l.entry-iterator ≡ hidden l.fn.output l.initial.to l.fn.names;
}
