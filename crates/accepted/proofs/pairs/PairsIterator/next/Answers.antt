-- `next` meets its contract: it gives the pair at its place, whose texts end where their NULs stand, as long as pairs are left.
use Rattle.std.proofs.Common.{◌≡◌, ◌+◌, ◌-◌, ◌∷◌, length, drop, ap, sym, ◌∙◌, arith}
use Rattle.find.specs.Nul.{until_nul}
use Rattle.accepted.specs.Entries.{placed, pairs_from}
use Rattle.accepted.proofs.Entered.{first_pair, no-pairs, pair_end}
use Rattle.accepted.proofs.pairs.PairsIterator.next.Goals as goal

pub returns-then-self-eq0-clause-steps : goal.returns-then-self-eq0-clause-steps
returns-then-self-eq0-clause-steps c =
    let none = sym c.self.view_is ∙ no-pairs c.self.inside.payload.now c.self.inside.left c.self.inside.at c.if-self-eq0.true in
    (none, none)

pub overflow_cast-name : goal.overflow_cast-name
overflow_cast-name c =
    let first = first_pair c.self.inside.payload.now _ _ (omega arith) c.self.invariant.1 in
    omega (arith, first.within, c.self.invariant.0, c.find_nul_from.ensures)

pub overflow_add-start : goal.overflow_add-start
overflow_add-start c =
    let first = first_pair c.self.inside.payload.now _ _ (omega arith) c.self.invariant.1 in
    omega (arith, first.within, c.self.invariant.0, c.find_nul_from.ensures, c.wire_size.ensures)

pub overflow_cast-value : goal.overflow_cast-value
overflow_cast-value c =
    let first = first_pair c.self.inside.payload.now _ _ (omega arith) c.self.invariant.1 in
    let end = pair_end c.self.inside.payload.now _ _ _ _ c.find_nul_from.ensures c.wire_size.ensures c.find_nul_from-2.ensures in
    omega (arith, first.within, c.self.invariant.0, end)

pub overflow_add-self : goal.overflow_add-self
overflow_add-self c =
    let first = first_pair c.self.inside.payload.now _ _ (omega arith) c.self.invariant.1 in
    let end = pair_end c.self.inside.payload.now _ _ _ _ c.find_nul_from.ensures c.wire_size.ensures c.find_nul_from-2.ensures in
    omega (arith, first.within, c.self.invariant.0, end, c.wire_size-2.ensures)

pub invariant_of-result : goal.invariant_of-result
invariant_of-result c =
    let first = first_pair c.self.inside.payload.now _ _ (omega arith) c.self.invariant.1 in
    let end = pair_end c.self.inside.payload.now _ _ _ _ c.find_nul_from.ensures c.wire_size.ensures c.find_nul_from-2.ensures in
    record {
      limited = c.self.invariant.0;
      name_is = c.find_nul_from.ensures;
      value_is = c.find_nul_from-2.ensures ∙ ap (λ n. until_nul (drop (c.self.inside.at + n) c.self.inside.payload.now)) c.wire_size.ensures;
      within = omega (arith, first.within, end, c.wire_size.ensures);
    }

pub invariant_of-self : goal.invariant_of-self
invariant_of-self c =
    let first = first_pair c.self.inside.payload.now _ _ (omega arith) c.self.invariant.1 in
    let end = pair_end c.self.inside.payload.now _ _ _ _ c.find_nul_from.ensures c.wire_size.ensures c.find_nul_from-2.ensures in
    (c.self.invariant.0, rw (c.wire_size-2.ensures, end) first.others)

pub returns-clause-steps : goal.returns-clause-steps
returns-clause-steps c =
    let first = first_pair c.self.inside.payload.now _ _ (omega arith) c.self.invariant.1 in
    let end = pair_end c.self.inside.payload.now _ _ _ _ c.find_nul_from.ensures c.wire_size.ensures c.find_nul_from-2.ensures in
    sym c.self.view_is ∙ rw (c.wire_size-2.ensures, end) first.is

pub returns-clause-goes : goal.returns-clause-goes
returns-clause-goes c =
    let first = first_pair c.self.inside.payload.now _ _ (omega arith) c.self.invariant.1 in
    let end = pair_end c.self.inside.payload.now _ _ _ _ c.find_nul_from.ensures c.wire_size.ensures c.find_nul_from-2.ensures in
    let others = pairs_from c.self.inside.payload.now (c.self.inside.left - 1) (c.self.inside.at + c.wire_size.result.0 + c.wire_size-2.result.0) in
    let taken : c.args.self.now ≡ placed c.self.inside.payload.now c.self.inside.at ∷ others = sym c.self.view_is ∙ rw (c.wire_size-2.ensures, end) first.is in
    record { on = λ _. (tt, tt, omega (arith, ap length taken)); keeps = tt; rests = λ _. tt }
