-- `has_fields` meets its contract: the last field ends where the line does, and the part before it does not.
use Rattle.std.proofs.Common.{◌-◌, ℕ, sym, ap, ◌∙◌, length, arith}
use borrow.Author.Tests.{ne_eqb}
use lib.Dec.{ltb}
use Rattle.line_reader.proofs.EndsLaws.{has-none, has-not, has-last}
use Rattle.line_reader.proofs.split_line.SplitLine.has_fields.Goals as goal

pub returns-then-count-eq0 : goal.returns-then-count-eq0
returns-then-count-eq0 c =
    let line = c.args.self.now in
    rw c.if-count-eq0.true (sym (has-none line.line.now (sym (line.ends_are 0 (omega arith)) ∙ (rw c.if-count-eq0.true at c.if-self-count.true))))

pub returns-else-count-eq0 : goal.returns-else-count-eq0
returns-else-count-eq0 c =
    let line = c.args.self.now in
    ap (λ (e : ℕ). ltb e (length line.line.now)) (line.ends_are (c.args.count - 1) (omega arith)) ∙
    sym (has-last line.line.now c.args.count c.if-count-eq0.false (sym (line.ends_are c.args.count (omega arith)) ∙ c.if-self-count.true))

pub returns-else-self-count : goal.returns-else-self-count
returns-else-self-count c =
    let line = c.args.self.now in
    ne_eqb _ _ c.if-self-count.false ∙ sym (has-not line.line.now c.args.count (λ e. c.if-self-count.false (line.ends_are c.args.count (omega arith) ∙ e)))
