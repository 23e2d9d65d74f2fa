-- Up to where the blocks begin every byte is right, as ASCII or because the first three bytes were looked at.
use Rattle.std.proofs.Common.{◌≡◌, ℕ, zero, suc, ◌<◌, true, List, get_or, arith}
use Rattle.validate.specs.Rule.{right, right_at}
use Rattle.validate.proofs.Runs.{after-ascii}
use Rattle.validate.proofs.RuleLaws.{ascii-right}
use Rattle.validate.proofs.rule.passed.Goals as goal

-- three zeros stand before the start of a text
first_three :
    (s : List ℕ) → right 0 0 0 (get_or s 0 0) ≡ true → right 0 0 (get_or s 0 0) (get_or s 1 0) ≡ true → right 0 (get_or s 0 0) (get_or s 1 0) (get_or s 2 0) ≡ true
    → (i : ℕ) → i < 3 → right_at s i ≡ true
unfolding right_at
first_three s a b c zero h = a
first_three s a b c (suc zero) h = b
first_three s a b c (suc (suc zero)) h = c
first_three s a b c (suc (suc (suc i))) h = absurd (omega arith)

pub returns-then-text-lt-SHORTEST-clause-same_answer : goal.returns-then-text-lt-SHORTEST-clause-same_answer
returns-then-text-lt-SHORTEST-clause-same_answer c = after-ascii c.args.text.now c.args.at (omega arith) c.requires.ascii

pub invariant_of-carried_on : goal.invariant_of-carried_on
invariant_of-carried_on c = record { in_text = omega arith; each = ascii-right c.args.text.now c.args.at c.requires.ascii }

pub returns-then-has_wrong-clause-same_answer : goal.returns-then-has_wrong-clause-same_answer
returns-then-has_wrong-clause-same_answer c = after-ascii c.args.text.now c.args.at (omega arith) c.requires.ascii

pub invariant_of-carried_on-2 : goal.invariant_of-carried_on-2
invariant_of-carried_on-2 c =
    let no = c.has_wrong.ensures c.if-has_wrong.false in
    record { in_text = omega arith; each = first_three c.args.text.now (no 0 (omega arith)) (no 1 (omega arith)) (no 2 (omega arith)) }
