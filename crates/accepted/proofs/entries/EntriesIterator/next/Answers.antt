-- `next` meets its contract: it gives the entry at its place, as long as entries are left.
use Rattle.std.proofs.Common.{length, ap, sym, ◌∙◌, arith}
use Rattle.accepted.proofs.Entered.{first_entry, no-entries}
use Rattle.accepted.proofs.entries.EntriesIterator.next.Goals as goal

pub returns-then-self-eq0-clause-steps : goal.returns-then-self-eq0-clause-steps
returns-then-self-eq0-clause-steps g c =
    let none = sym c.self.view_is ∙ no-entries c.self.inside.payload.now c.self.inside.left c.self.inside.at c.if-self-eq0.true in
    (none, none)

pub overflow_add-self : goal.overflow_add-self
overflow_add-self g c =
    let first = first_entry c.self.inside.payload.now _ _ _ (omega arith) c.self.invariant.1 in
    omega (arith, first.within, c.self.invariant.0, c.read_u32.ensures)

pub invariant_of-result : goal.invariant_of-result
invariant_of-result g c =
    let first = first_entry c.self.inside.payload.now _ _ _ (omega arith) c.self.invariant.1 in
    record { limited = c.self.invariant.0; headed = first.headed; with_nul = first.with-nul; within = first.within }

pub invariant_of-self : goal.invariant_of-self
invariant_of-self g c =
    let first = first_entry c.self.inside.payload.now _ _ _ (omega arith) c.self.invariant.1 in
    (c.self.invariant.0, rw (← c.read_u32.ensures) at first.others)

pub returns-clause-steps : goal.returns-clause-steps
returns-clause-steps g c =
    let first = first_entry c.self.inside.payload.now _ _ _ (omega arith) c.self.invariant.1 in
    sym c.self.view_is ∙ rw (← c.read_u32.ensures) at first.is

pub returns-clause-goes : goal.returns-clause-goes
returns-clause-goes g c =
    let first = first_entry c.self.inside.payload.now _ _ _ (omega arith) c.self.invariant.1 in
    let taken = sym c.self.view_is ∙ rw (← c.read_u32.ensures) at first.is in
    record { on = λ _. (tt, tt, omega (arith, ap length taken)); keeps = tt; rests = λ _. tt }
