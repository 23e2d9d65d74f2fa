-- `measure` meets its contract: at each line, what is left to measure is a line that is not closed, a refusal, or the line's sizes and the rest.
use Rattle.std.proofs.Common.{◌≡◌, sym, ap, ◌∙◌, ◌+◌, arith}
use Rattle.std.specs.Prelude.{Some}
use Rattle.std.specs.Result.{result_ok}
use Rattle.std.proofs.lemmas.Result.{err_from_is_err_and}
use Rattle.layout.proofs.Checked.{refused-by}
use Rattle.sizes.specs.Measure.{advance}
use Rattle.line_reader.specs.declared.line.LineSizes.{LineSizes}
use Rattle.lines.proofs.Measured.{counted, sheet-measured}
use Rattle.lines.proofs.Turns.{unclosed, refused, read, ended, told-refused, told_line}
use Rattle.lines.proofs.measure.Goals as goal

pub returns-in_err-line : goal.returns-in_err-line
returns-in_err-line c =
    let p = err_from_is_err_and c.from_residual.result c.from_residual.ensures.1 in
    let (n, number, same) = c.loop-rest.invariant in
    let (none, refusal) = refused-by _ c.ok_or.ensures.value c.in_err-line.was in
    let fault = unclosed c.loop-rest.rest.now n c.loop-rest.sizes (sym c.is_empty.ensures ∙ c.loop-rest-test.true) (rw none at c.split_line.ensures) in
    rw (p.1, p.2, refusal, number) (sym fault ∙ same ∙ sheet-measured c.args.sheet.now)

pub returns-in_err-line-2 : goal.returns-in_err-line-2
returns-in_err-line-2 c =
    let p = err_from_is_err_and c.from_residual-in_err-line-2.result c.from_residual-in_err-line-2.ensures.1 in
    let (n, number, same) = c.loop-rest.invariant in
    let first = rw (c.ok_or.ensures.ok_part ∙ ap result_ok c.in_ok-line.was) at c.split_line.ensures in
    let told = rw number at c.check_line.ensures in
    let fault = refused c.loop-rest.rest.now n c.loop-rest.sizes _ _ first _ (told-refused _ _ (sym told ∙ c.in_err-line-2.was)) in
    rw (p.1, p.2) (sym fault ∙ same ∙ sheet-measured c.args.sheet.now)

pub loop-rest-preserved : goal.loop-rest-preserved
loop-rest-preserved c =
    let (n, number, same) = c.loop-rest.invariant in
    let first = rw (c.ok_or.ensures.ok_part ∙ ap result_ok c.in_ok-line.was) at c.split_line.ensures in
    let told = rw number at c.check_line.ensures in
    let (r, good, is) = told_line _ _ (sym told ∙ c.in_ok-line-2.was) in
    let step = read c.loop-rest.rest.now n c.loop-rest.sizes _ _ first r good in
    let sizes : c.advance-sizes.result ≡ counted c.loop-rest.sizes r = c.advance-sizes.ensures ∙ ap (λ (k : LineSizes). advance c.loop-rest.sizes (Some k.tag) k.first k.second) is in
    (n + 1, omega (arith, number), rw sizes (sym step ∙ same))

pub returns : goal.returns
returns c =
    let (n, number, same) = c.loop-rest.invariant in
    c.finish.ensures ∙ sym (ended c.loop-rest.rest.now n c.loop-rest.sizes (sym c.is_empty.ensures ∙ c.loop-rest-test.false)) ∙ same ∙ sheet-measured c.args.sheet.now
