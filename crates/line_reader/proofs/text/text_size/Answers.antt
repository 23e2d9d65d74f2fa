-- `text_size` meets its contract: first in the rest is an escape, or a run of bytes that stand for themselves.
use Rattle.std.proofs.Common.{sym, ◌∙◌, arith}
use Rattle.find.proofs.Rest.{from, length-from}
use Rattle.line_reader.proofs.SizeLaws.{text-done, text-plain, text-escape, text-bad}
use Rattle.line_reader.proofs.text.text_size.Goals as goal

pub returns-then-not-is_escape : goal.returns-then-not-is_escape
returns-then-not-is_escape c =
    sym (sym c.loop-rest.invariant.told ∙ text-bad _ _ c.in-len1-up.len_at_least c.if-first-eq-BACKSLASH.true (sym c.is_escape.ensures ∙ c.if-not-is_escape.true))

pub loop-rest-preserved-then-first-eq-BACKSLASH : goal.loop-rest-preserved-then-first-eq-BACKSLASH
loop-rest-preserved-then-first-eq-BACKSLASH c =
    let s = c.loop-rest.rest.now in
    let (two, told) = text-escape c.loop-rest.size s c.in-len1-up.len_at_least c.if-first-eq-BACKSLASH.true (sym c.is_escape.ensures ∙ c.if-not-is_escape.false) in
    record { small = omega (arith, length-from 1 s, length-from 1 (from 1 s), two, c.loop-rest.invariant.small); told = sym told ∙ c.loop-rest.invariant.told }

pub overflow_add-size-else-first-eq-BACKSLASH : goal.overflow_add-size-else-first-eq-BACKSLASH
overflow_add-size-else-first-eq-BACKSLASH c =
    let (some, most, told) = text-plain c.loop-rest.size c.loop-rest.rest.now c.in-len1-up.len_at_least c.if-first-eq-BACKSLASH.false in
    omega (arith, most, c.find_any-run.ensures, c.loop-rest.invariant.small)

pub slice_bounds-rest-count-else-first-eq-BACKSLASH : goal.slice_bounds-rest-count-else-first-eq-BACKSLASH
slice_bounds-rest-count-else-first-eq-BACKSLASH c =
    let (some, most, told) = text-plain c.loop-rest.size c.loop-rest.rest.now c.in-len1-up.len_at_least c.if-first-eq-BACKSLASH.false in
    omega (arith, most, c.find_any-run.ensures)

pub slice_bounds-rest-start-else-first-eq-BACKSLASH : goal.slice_bounds-rest-start-else-first-eq-BACKSLASH
slice_bounds-rest-start-else-first-eq-BACKSLASH c =
    let (some, most, told) = text-plain c.loop-rest.size c.loop-rest.rest.now c.in-len1-up.len_at_least c.if-first-eq-BACKSLASH.false in
    omega (arith, most, c.find_any-run.ensures)

pub loop-rest-smaller : goal.loop-rest-smaller
loop-rest-smaller c =
    let (some, most, told) = text-plain c.loop-rest.size c.loop-rest.rest.now c.in-len1-up.len_at_least c.if-first-eq-BACKSLASH.false in
    omega (arith, some, most, c.find_any-run.ensures, length-from c.find_any-run.result c.loop-rest.rest.now)

pub loop-rest-preserved : goal.loop-rest-preserved
loop-rest-preserved c =
    let s = c.loop-rest.rest.now in
    let (some, most, told) = text-plain c.loop-rest.size s c.in-len1-up.len_at_least c.if-first-eq-BACKSLASH.false in
    record {
      small = omega (arith, most, c.find_any-run.ensures, length-from c.find_any-run.result s, c.loop-rest.invariant.small);
      told = rw c.find_any-run.ensures (sym told ∙ c.loop-rest.invariant.told);
    }

pub returns : goal.returns
returns c = sym (sym c.loop-rest.invariant.told ∙ text-done _ _ c.in_default.len_below)
