-- `later_field` meets its contract: part after part is passed, and where one ends with the line no field is left.
use Rattle.std.proofs.Common.{◌≡◌, ◌+◌, ℕ, [], sym, ◌∙◌, arith, ap, ap₂, get_or}
use Rattle.sheet.specs.Fields.{tab}
use Rattle.sheet.specs.Lines.{split}
use Rattle.line_reader.specs.Ends.{end_from, part_end}
use Rattle.line_reader.proofs.EndsLaws.{line-most, next-part, field-is, field-past, part_after}
use Rattle.line_reader.proofs.split_line.SplitLine.later_field.Goals as goal

pub loop-passed-init : goal.loop-passed-init
loop-passed-init c = c.args.self.now.ends_are 4 (omega arith)

pub returns-then-end-self : goal.returns-then-end-self
returns-then-end-self c =
    sym (field-past c.args.self.now.line.now c.loop-passed.passed c.args.index (sym c.loop-passed.invariant ∙ c.if-end-self.true) (omega arith))

pub overflow_add-end : goal.overflow_add-end
overflow_add-end c = omega (arith, c.loop-passed.invariant, line-most c.args.self.now.line.now c.loop-passed.passed)

pub loop-passed-preserved : goal.loop-passed-preserved
loop-passed-preserved c =
    let s = c.args.self.now.line.now in
    let n = c.loop-passed.passed in
    let here = c.loop-passed.invariant in
    c.find_from-end.ensures.value ∙ ap (part_end s) (ap (λ (e : ℕ). e + 1) here) ∙ next-part s n (omega (arith, here, line-most s n))

pub returns-then-end-self-2 : goal.returns-then-end-self-2
returns-then-end-self-2 c =
    sym (field-past c.args.self.now.line.now c.loop-passed.passed c.args.index (sym c.loop-passed.invariant ∙ c.if-end-self-2.true) (omega (arith, c.loop-passed.auto.passed-end)))

pub overflow_add-result : goal.overflow_add-result
overflow_add-result c = omega (arith, c.loop-passed.invariant, line-most c.args.self.now.line.now c.loop-passed.passed)

pub overflow_add-end-2 : goal.overflow_add-end-2
overflow_add-end-2 c = omega (arith, c.loop-passed.invariant, line-most c.args.self.now.line.now c.loop-passed.passed)

pub slice_bounds-result-end-2 : goal.slice_bounds-result-end-2
slice_bounds-result-end-2 c = omega (arith, c.find_from.ensures.upper_bound, c.loop-passed.invariant, line-most c.args.self.now.line.now c.loop-passed.passed)

pub returns : goal.returns
returns c =
    let s = c.args.self.now.line.now in
    let n = c.loop-passed.passed in
    let here = c.loop-passed.invariant in
    let all : n ≡ c.args.index = omega (arith, c.loop-passed.auto.passed-end) in
    let next : c.find_from.result ≡ end_from s 0 (n + 1) =
    c.find_from.ensures.value ∙ ap (part_end s) (ap (λ (e : ℕ). e + 1) here) ∙ next-part s n (omega (arith, here, line-most s n)) in
    ap₂ (part_after s) here next ∙ sym (field-is s n) ∙ ap (λ (k : ℕ). get_or (split tab s).rest k []) all
