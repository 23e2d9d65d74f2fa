-- A right byte that begins a longer character stands where none is open; where none of the last three bytes begins a character that reaches past
-- the end, none is open there.
use Rattle.std.specs.Prelude.{◌≡◌, ℕ, ◌-◌, ◌<◌, ◌≤◌, true, List, length, get_or, drop}
use Rattle.std.proofs.Common.{refl, ◌∙◌, arith}
use Rattle.utf8.specs.Rfc3629.{octets_from, utf8_of}
use Rattle.validate.specs.Rule.{right_at}
use Rattle.validate.proofs.Prefix.{passed}
use Rattle.validate.proofs.RuleGrammar.{due-none}
use Rattle.validate.proofs.RuleLaws.{shut_at, open-at}
use Rattle.validate.proofs.rule.RightPart.shut_end.Goals as goal

module _ (s : List ℕ) (end : ℕ) (inside : end ≤ length s) (all : (i : ℕ) → i < end → right_at s i ≡ true) where
  before-long : (r : ℕ) → r < end → 0xC2 ≤ get_or s r 0 → octets_from 0 r (drop r s) ≡ utf8_of s
  before-long r h l = passed s r (omega arith) (λ i k. all i (omega arith)) (shut_at s r (all r h) l)

  at-end : 3 ≤ end → get_or s (end - 1) 0 < 0xC2 → get_or s (end - 2) 0 < 0xE0 → get_or s (end - 3) 0 < 0xF0 → octets_from 0 end (drop end s) ≡ utf8_of s
  at-end h p1 p2 p3 = passed s end inside all (open-at s end h ∙ due-none _ _ _ p1 p2 p3)

pub returns-then-end-lt3-clause-same_answer : goal.returns-then-end-lt3-clause-same_answer
unfolding utf8_of
returns-then-end-lt3-clause-same_answer c = refl

pub returns-then-text-end-ge194-clause-same_answer : goal.returns-then-text-end-ge194-clause-same_answer
returns-then-text-end-ge194-clause-same_answer c =
    before-long c.args.self.text.now c.args.self.end c.args.self.in_text c.args.self.each _ (omega arith) (omega arith)

pub returns-then-text-end-ge224-clause-same_answer : goal.returns-then-text-end-ge224-clause-same_answer
returns-then-text-end-ge224-clause-same_answer c =
    before-long c.args.self.text.now c.args.self.end c.args.self.in_text c.args.self.each _ (omega arith) (omega arith)

pub returns-then-text-end-ge240-clause-same_answer : goal.returns-then-text-end-ge240-clause-same_answer
returns-then-text-end-ge240-clause-same_answer c =
    before-long c.args.self.text.now c.args.self.end c.args.self.in_text c.args.self.each _ (omega arith) (omega arith)

pub returns-clause-same_answer : goal.returns-clause-same_answer
returns-clause-same_answer c =
    at-end c.args.self.text.now c.args.self.end c.args.self.in_text c.args.self.each (omega arith) (omega arith) (omega arith) (omega arith)
