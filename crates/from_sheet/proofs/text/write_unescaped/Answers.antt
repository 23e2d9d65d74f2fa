-- `write_unescaped` meets its contract: a turn stores the byte of an escape, or a run of bytes that stand for themselves.
use Rattle.std.proofs.Common.{◌+◌, [], ◌∷◌, ℕ, sym, ap, ◌∙◌, length, get_or, take, length-append, arith}
use Rattle.format.proofs.Storing.{left-next, left-none}
use Rattle.sheet.specs.Fields.{meant, unescape}
use Rattle.find.proofs.Rest.{from}
use Rattle.from_sheet.proofs.Fields.{unescape-pair, unescape-end, run-found}
use Rattle.from_sheet.proofs.text.write_unescaped.Goals as goal

pub overflow_add-to : goal.overflow_add-to
overflow_add-to c =
    let (inside, is) = unescape-pair c.loop-rest.rest.now (sym c.is_pair.ensures ∙ c.if-is_pair.true) in
    omega (arith, ap length is, c.loop-rest.invariant.ends)

pub loop-rest-preserved-then-is_pair : goal.loop-rest-preserved-then-is_pair
loop-rest-preserved-then-is_pair c =
    let s = c.loop-rest.rest.now in
    let m = meant (get_or s 1 0) in
    let (inside, is) = unescape-pair s (sym c.is_pair.ensures ∙ c.if-is_pair.true) in
    left-next (m ∷ []) (unescape (from 2 s)) is c.loop-rest.invariant (omega arith) (rw (← c.meant_by.ensures) c.write_array.ensures)

pub overflow_add-run : goal.overflow_add-run
overflow_add-run c =
    let r = run-found _ _ c.in-len1-up.len_at_least (sym c.is_pair.ensures ∙ c.if-is_pair.false) c.find_any-run.ensures in
    omega (arith, r.long, ap length r.is, length-append {A = ℕ}, c.loop-rest.invariant.ends)

pub slice_bounds-write_bytes-end : goal.slice_bounds-write_bytes-end
slice_bounds-write_bytes-end c = sym (run-found _ _ c.in-len1-up.len_at_least (sym c.is_pair.ensures ∙ c.if-is_pair.false) c.find_any-run.ensures).long

pub overflow_add-to-else-is_pair : goal.overflow_add-to-else-is_pair
overflow_add-to-else-is_pair c =
    let r = run-found _ _ c.in-len1-up.len_at_least (sym c.is_pair.ensures ∙ c.if-is_pair.false) c.find_any-run.ensures in
    omega (arith, r.long, ap length r.is, length-append {A = ℕ}, c.loop-rest.invariant.ends)

pub slice_bounds-rest-count-else-is_pair : goal.slice_bounds-rest-count-else-is_pair
slice_bounds-rest-count-else-is_pair c = (run-found _ _ c.in-len1-up.len_at_least (sym c.is_pair.ensures ∙ c.if-is_pair.false) c.find_any-run.ensures).within

pub slice_bounds-rest-start-else-is_pair : goal.slice_bounds-rest-start-else-is_pair
slice_bounds-rest-start-else-is_pair c = omega (arith, (run-found _ _ c.in-len1-up.len_at_least (sym c.is_pair.ensures ∙ c.if-is_pair.false) c.find_any-run.ensures).within)

pub loop-rest-preserved : goal.loop-rest-preserved
loop-rest-preserved c =
    let s = c.loop-rest.rest.now in
    let n = 1 + c.find_any-run.result in
    let r = run-found s c.find_any-run.result c.in-len1-up.len_at_least (sym c.is_pair.ensures ∙ c.if-is_pair.false) c.find_any-run.ensures in
    left-next (take n s) (unescape (from n s)) r.is c.loop-rest.invariant (omega (arith, r.long)) c.write_bytes.ensures

pub returns-clause-value : goal.returns-clause-value
returns-clause-value c = (left-none (unescape-end _ c.in_default.len_below) c.loop-rest.invariant).0

pub returns-clause-output_after : goal.returns-clause-output_after
returns-clause-output_after c = (left-none (unescape-end _ c.in_default.len_below) c.loop-rest.invariant).1
