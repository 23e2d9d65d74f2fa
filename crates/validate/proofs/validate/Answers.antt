-- A text of ASCII alone is well formed, and reading on from where the rule came to gives the answer for the whole text, which at its end is that it is well formed.
use Rattle.std.proofs.Common.{sym, ◌∙◌, arith}
use Rattle.utf8.proofs.Octets.{ended}
use Rattle.validate.proofs.Runs.{after-ascii}
use Rattle.validate.proofs.validate.Goals as goal

pub returns-then-at-text : goal.returns-then-at-text
returns-then-at-text c = sym (ended _ _ (omega arith)) ∙ after-ascii _ _ (omega arith) c.run_end-at.ensures.ascii

pub returns-then-from-text : goal.returns-then-from-text
returns-then-from-text c = sym (ended _ _ (omega arith)) ∙ c.passed-from.ensures.same_answer
