-- `write_entries` meets its contract: a turn stores one of the entries, each of which is the one that was closed.
use Rattle.std.proofs.Common.{[], ◌+◌, ◌*◌, ap, ◌∙◌, arith}
use Rattle.std.proofs.lemmas.List.Edits.{sets}
use Rattle.format.specs.Encoding.{content_entry}
use Rattle.format.proofs.Storing.{left-next, left-none}
use Rattle.public_copy.proofs.ContentsLaws.{length-empty, empty-closed, empties-next, empties-end}
use Rattle.public_copy.proofs.contents.write_entries.Goals as goal

pub loop-done-preserved : goal.loop-done-preserved
loop-done-preserved c =
    let l = c.loop-done in
    left-next (content_entry []) _ (empties-next c.args.count l.done c.loop-done-test.true) l.invariant (omega (arith, length-empty))
    (c.write_array.ensures ∙ ap (sets l.output (c.args.to + 16 * l.done)) (c.close_content.ensures.output_after ∙ empty-closed))

pub returns-clause-output_after : goal.returns-clause-output_after
returns-clause-output_after c = (left-none (empties-end c.args.count c.loop-done.done c.loop-done-test.false) c.loop-done.invariant).1
