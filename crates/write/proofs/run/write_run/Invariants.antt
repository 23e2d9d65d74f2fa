-- The loop of `write_run`: the entries of the rows left, stored from here on, give the output that those of all the rows give, and end at the same
-- index and the same place.
use Rattle.std.proofs.Common.{Some, ◌≡◌, ◌+◌, length, drop}
use Rattle.std.proofs.lemmas.List.Edits.{sets}
use Rattle.write.specs.Section.{entry_count}
use Rattle.write.specs.Source.{rows, run_from}
use Rattle.write.proofs.run.write_run.Given as goal

abbrev pub invariant-loop-index : goal.invariant-loop-index
invariant-loop-index l =
    let left = run_from l.source l.tag l.index in
    let all = run_from l.source l.tag l.first in
    record {
      index : l.index + entry_count (Some l.tag) (drop l.index (rows l.source)) ≡ l.first + entry_count (Some l.tag) (drop l.first (rows l.source));
      at : l.at + length left ≡ l.start + length all;
      stored : sets l.output l.at left ≡ sets l.initial.output l.start all;
    }
