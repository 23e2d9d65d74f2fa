-- `hide_sizes` meets its contract: a turn hides the size of the next entry, and goes on after it.
use Rattle.std.proofs.Common.{◌≡◌, ◌+◌, sym, ap, ◌∙◌, arith}
use Rattle.wire.specs.Number.{u32_at}
use Rattle.public_copy.specs.Hidden.{span, hidden}
use Rattle.public_copy.proofs.names.hide_sizes.Goals as goal

pub loop-entry-preserved : goal.loop-entry-preserved
unfolding span hidden
loop-entry-preserved c =
    let l = c.loop-entry in
    let entry = c.in-Some.entry in
    let all : span l.entry-iterator ≡ u32_at entry.payload.now entry.at + span c.next.new.self = ap span c.in-Some.ensures.steps in
    record {
      room = omega (arith, l.invariant.room, all, c.size-to.ensures);
      rest = rw (c.write_u32.ensures, c.size-to.ensures) (sym (ap (hidden l.output l.to) c.in-Some.ensures.steps) ∙ l.invariant.rest);
    }

pub returns : goal.returns
unfolding hidden
returns c = sym (ap (hidden c.loop-entry.output c.loop-entry.to) c.in-None.ensures.steps.0) ∙ c.loop-entry.invariant.rest
