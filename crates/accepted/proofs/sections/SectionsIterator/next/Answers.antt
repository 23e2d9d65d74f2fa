-- `next` meets its contract: it gives the section at its place, as long as sections are left.
use Rattle.std.proofs.Common.{length, ap, sym, ◌∙◌, arith}
use Rattle.layout.specs.Kinds.{section_type}
use Rattle.accepted.proofs.Accepted.{next-good}
use Rattle.accepted.proofs.Walked.{sections-next, sections-none}
use Rattle.accepted.proofs.sections.SectionsIterator.next.Goals as goal

pub returns-then-self-eq0-clause-steps : goal.returns-then-self-eq0-clause-steps
returns-then-self-eq0-clause-steps c =
    let none = sym c.self.view_is ∙ sections-none c.self.inside.payload.now c.self.inside.left c.self.inside.at c.if-self-eq0.true in
    (none, none)

pub overflow_add-at : goal.overflow_add-at
overflow_add-at c =
    let good = next-good c.self.inside.payload.now _ _ (omega arith) c.self.invariant.1 in
    omega (arith, good.within, c.self.invariant.0)

pub overflow_add-self : goal.overflow_add-self
overflow_add-self c =
    let good = next-good c.self.inside.payload.now _ _ (omega arith) c.self.invariant.1 in
    omega (arith, good.within, c.self.invariant.0)

pub invariant_of-result : goal.invariant_of-result
invariant_of-result c =
    let p = c.self.inside.payload.now in
    let good = next-good p _ c.self.inside.at (omega arith) c.self.invariant.1 in
    let kind = c.from_u16-kind.ensures ∙ ap section_type c.read_u16.ensures in
    record { limited = c.self.invariant.0; of_kind = kind; headed = good.headed; within = good.within; good = rw kind good.first }

pub invariant_of-self : goal.invariant_of-self
invariant_of-self c =
    let good = next-good c.self.inside.payload.now _ c.self.inside.at (omega arith) c.self.invariant.1 in
    (c.self.invariant.0, rw (← c.read_u32-size.ensures) at good.others)

pub returns-clause-steps : goal.returns-clause-steps
returns-clause-steps c =
    let kind = c.from_u16-kind.ensures ∙ ap section_type c.read_u16.ensures in
    sym c.self.view_is ∙ sections-next _ c.self.inside.left c.self.inside.at _ _ (omega arith) kind c.read_u32-size.ensures

pub returns-clause-goes : goal.returns-clause-goes
returns-clause-goes c =
    let kind = c.from_u16-kind.ensures ∙ ap section_type c.read_u16.ensures in
    let taken = sym c.self.view_is ∙ sections-next _ c.self.inside.left c.self.inside.at _ _ (omega arith) kind c.read_u32-size.ensures in
    record { on = λ _. (tt, tt, omega (arith, ap length taken)); keeps = tt; rests = λ _. tt }
