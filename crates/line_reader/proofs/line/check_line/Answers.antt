-- `check_line` meets its contract: the tag, the place and the count decide first, then the sizes, then the texts.
use Rattle.std.proofs.Common.{◌≡◌, ap, sym, ◌∙◌}
use Rattle.std.specs.Prelude.{Option, Err, Ok, Some}
use Rattle.std.specs.Result.{result_ok}
use Rattle.std.proofs.lemmas.Result.{err_from_is_err_and}
use Rattle.layout.specs.Checked.{Checked}
use Rattle.layout.proofs.Checked.{refused-by}
use Rattle.sheet.specs.Lines.{read_line}
use Rattle.table.specs.declared.tag.Tag.{Tag}
use Rattle.line_reader.proofs.LineLaws.{line-untagged, line-misplaced, line-miscounted, line-unsized, line-sized}
use Rattle.line_reader.proofs.line.check_line.Goals as goal

-- the tag that the line begins with
tagged : {o told : Option Tag} {made : Checked Tag} {t : Tag} → o ≡ told → o ≡ result_ok made → made ≡ Ok t → told ≡ Some t
tagged is part was = cc

pub returns-in_err-tag : goal.returns-in_err-tag
unfolding read_line
returns-in_err-tag c =
    let p = err_from_is_err_and c.from_residual.result c.from_residual.ensures.1 in
    let (none, refusal) = refused-by _ c.ok_or.ensures.value c.in_err-tag.was in
    rw (← c.new-line.ensures, sym c.tag.ensures ∙ none)
    (p.1 ∙ ap Err (p.2 ∙ refusal) ∙ sym (line-untagged _ c.args.previous _))

pub returns-then-not-is_placed : goal.returns-then-not-is_placed
unfolding read_line
returns-then-not-is_placed c =
    rw (← c.new-line.ensures, tagged c.tag.ensures c.ok_or.ensures.ok_part c.in_ok-tag.was) (sym (line-misplaced _ _ _ _ (sym c.is_placed.ensures ∙ c.if-not-is_placed.true)))

pub returns-then-not-has_fields : goal.returns-then-not-has_fields
unfolding read_line
returns-then-not-has_fields c =
    rw (← c.new-line.ensures, tagged c.tag.ensures c.ok_or.ensures.ok_part c.in_ok-tag.was) (sym (line-miscounted _ _ _ _ (cc)))

pub returns-in_err-sizes : goal.returns-in_err-sizes
unfolding read_line
returns-in_err-sizes c =
    let p = err_from_is_err_and c.from_residual-in_err-sizes.result c.from_residual-in_err-sizes.ensures.1 in
    let (none, refusal) = refused-by _ c.ok_or-2.ensures.value c.in_err-sizes.was in
    rw (← c.new-line.ensures, tagged c.tag.ensures c.ok_or.ensures.ok_part c.in_ok-tag.was)
    (p.1 ∙ ap Err (p.2 ∙ refusal) ∙
    sym (line-unsized _ _ _ _ (sym c.is_placed.ensures ∙ c.if-not-is_placed.false) (cc) (sym c.measure.ensures ∙ none)))

pub returns-in_err-check_texts : goal.returns-in_err-check_texts
unfolding read_line
returns-in_err-check_texts c =
    let p = err_from_is_err_and c.from_residual-in_err-check_texts.result c.from_residual-in_err-check_texts.ensures.1 in
    let sizes = c.ok_or-2.ensures.ok_part ∙ ap result_ok c.in_ok-sizes.was in
    rw (← c.new-line.ensures, tagged c.tag.ensures c.ok_or.ensures.ok_part c.in_ok-tag.was)
    (p.1 ∙ ap Err p.2 ∙
    sym (line-sized _ _ _ _ (sym c.is_placed.ensures ∙ c.if-not-is_placed.false) (cc) _ _ (sym c.measure.ensures ∙ sizes) (sym c.check_texts.ensures ∙ c.in_err-check_texts.was)))

pub returns : goal.returns
unfolding read_line
returns c =
    let sizes = c.ok_or-2.ensures.ok_part ∙ ap result_ok c.in_ok-sizes.was in
    rw (← c.new-line.ensures, tagged c.tag.ensures c.ok_or.ensures.ok_part c.in_ok-tag.was)
    (sym (line-sized _ _ _ _ (sym c.is_placed.ensures ∙ c.if-not-is_placed.false) (cc) _ _ (sym c.measure.ensures ∙ sizes) (sym c.check_texts.ensures ∙ c.in_ok-check_texts.was)))
