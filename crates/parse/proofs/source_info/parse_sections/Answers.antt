-- `parse_sections` meets its contract: each turn takes what stands at the reader's place, and what the turns add up to is SectionTurns.antt's.
use Rattle.std.proofs.Common.{◌∙◌, sym, arith}
use Rattle.std.proofs.lemmas.Result.{err_from_is_err_and}
use borrow.Author.Tests.{ltb-true, ltb-false}
use Rattle.parse.proofs.SectionTurns.{inside, stops-at-header, stops, goes_on, rows-fit, leaves, reaches}
use Rattle.parse.proofs.source_info.parse_sections.Goals as goal

pub returns-in_err-section : goal.returns-in_err-section
returns-in_err-section c =
    let p = err_from_is_err_and c.from_residual.result c.from_residual.ensures.1 in
    let so = c.loop-done.invariant in
    rw (p.1, p.2) (stops-at-header _ _ _ _ _ so.passed (omega arith) _ (rw so.same at (sym c.in_err-section.ensures.0)))

pub invariant_of-part-clause-within : goal.invariant_of-part-clause-within
invariant_of-part-clause-within c =
    let so = c.loop-done.invariant in
    (inside _ _ _ (rw so.same at (sym c.in_ok-section.ensures.0))).1

pub returns-in_err-rows : goal.returns-in_err-rows
returns-in_err-rows c =
    let p = err_from_is_err_and c.from_residual-in_err-rows.result c.from_residual-in_err-rows.ensures.1 in
    let so = c.loop-done.invariant in
    rw (p.1, p.2) (stops _ _ _ _ _ so.passed (omega arith) _ (rw so.same at (sym c.in_ok-section.ensures.0)) _ (sym c.in_err-rows.ensures))

pub overflow_add-rows : goal.overflow_add-rows
overflow_add-rows c =
    let so = c.loop-done.invariant in
    omega (arith, rows-fit _ _ _ _ _ so.passed (omega arith) _ (rw so.same at (sym c.in_ok-section.ensures.0)) _ (sym c.in_ok-rows.ensures) c.requires.payload_len_bound)

pub loop-done-preserved : goal.loop-done-preserved
loop-done-preserved c =
    let so = c.loop-done.invariant in
    rw c.in_ok-section.ensures.1
    (record {
      same = so.same;
      passed = rw so.same (goes_on _ _ _ _ _ so.passed (omega arith) _ (rw so.same at (sym c.in_ok-section.ensures.0)) _ (sym c.in_ok-rows.ensures));
    })

pub returns-then-has_left : goal.returns-then-has_left
returns-then-has_left c =
    let so = c.loop-done.invariant in
    leaves _ _ _ _ _ so.passed (omega arith) (rw (← so.same) (ltb-true _ _ (sym c.has_left.ensures ∙ c.if-has_left.true)))

pub returns-else-has_left : goal.returns-else-has_left
returns-else-has_left c =
    let so = c.loop-done.invariant in
    reaches _ _ _ _ _ so.passed (omega arith) (rw (← so.same) (ltb-false _ _ (sym c.has_left.ensures ∙ c.if-has_left.false)))
