-- `field` meets its contract: a field is the part that follows so many others, and where one ends with the line none follows.
use Rattle.std.proofs.Common.{◌≡◌, ◌≤◌, ◌<◌, ◌+◌, ℕ, List, sym, ap₂, ◌∙◌, length, arith}
use Rattle.line_reader.specs.Ends.{end_from}
use Rattle.line_reader.proofs.EndsLaws.{line-most, next-part, field-is, field-past, part_after}
use Rattle.line_reader.proofs.split_line.SplitLine.field.Goals as goal

-- an end that is not the line's: a field starts after it, and ends at the next one
starts : (s : List ℕ) (k end next : ℕ) → end ≡ end_from s 0 k → next ≡ end_from s 0 (k + 1) → (end ≡ length s → ⊥) → end + 1 ≤ next
starts s k end next here is more =
    let inside : end_from s 0 k < length s = omega (arith, here, more, line-most s k) in
    omega (arith, is, here, next-part s k inside)

pub returns-then-end-self : goal.returns-then-end-self
returns-then-end-self c =
    let line = c.args.self.now in
    sym (field-past line.line.now c.args.index c.args.index (sym (line.ends_are c.args.index (omega arith)) ∙ c.if-end-self.true) (omega arith))

pub overflow_add-result : goal.overflow_add-result
overflow_add-result c =
    let line = c.args.self.now in
    omega (arith, line.ends_are c.args.index (omega arith), line-most line.line.now c.args.index)

pub slice_bounds-result-start : goal.slice_bounds-result-start
slice_bounds-result-start c =
    let line = c.args.self.now in
    starts line.line.now c.args.index _ _ (line.ends_are c.args.index (omega arith)) (line.ends_are (c.args.index + 1) (omega arith)) c.if-end-self.false

pub slice_bounds-result-count : goal.slice_bounds-result-count
slice_bounds-result-count c =
    let line = c.args.self.now in
    starts line.line.now c.args.index _ _ (line.ends_are c.args.index (omega arith)) (line.ends_are (c.args.index + 1) (omega arith)) c.if-end-self.false

pub slice_bounds-result-end-2 : goal.slice_bounds-result-end-2
slice_bounds-result-end-2 c =
    let line = c.args.self.now in
    omega (arith, line.ends_are (c.args.index + 1) (omega arith), line-most line.line.now (c.args.index + 1))

pub returns : goal.returns
returns c =
    let line = c.args.self.now in
    let here = line.ends_are c.args.index (omega arith) in
    let next = line.ends_are (c.args.index + 1) (omega arith) in
    ap₂ (part_after line.line.now) here next ∙ sym (field-is line.line.now c.args.index)
