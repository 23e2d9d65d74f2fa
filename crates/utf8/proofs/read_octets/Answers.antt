-- A turn passes over a byte of ASCII or another whole character, which ends within the text.
use Rattle.std.proofs.Common.{sym, ◌∙◌, arith}
use Rattle.utf8.proofs.Octets.{step-some, inside, ill-formed-none, ended, ascii}
use Rattle.utf8.proofs.read_octets.Goals as goal

pub loop-at-preserved-then-text-at-lt128 : goal.loop-at-preserved-then-text-at-lt128
loop-at-preserved-then-text-at-lt128 c = ascii _ _ (omega arith) c.if-text-at-lt128.true ∙ c.loop-at.invariant

pub overflow_add-at-in-Some : goal.overflow_add-at-in-Some
overflow_add-at-in-Some c = let h = inside c.args.text.now c.loop-at.at c.in-Some.count c.in-Some.ensures c.loop-at-test.true in omega arith

pub loop-at-preserved : goal.loop-at-preserved
loop-at-preserved c = step-some _ _ c.in-Some.count c.in-Some.ensures ∙ c.loop-at.invariant

pub loop-at-smaller : goal.loop-at-smaller
loop-at-smaller c = let h = inside c.args.text.now c.loop-at.at c.in-Some.count c.in-Some.ensures c.loop-at-test.true in omega arith

pub returns-in-None : goal.returns-in-None
returns-in-None c = sym (ill-formed-none _ _ c.loop-at-test.true c.in-None.ensures) ∙ c.loop-at.invariant

pub returns : goal.returns
returns c = sym (ended _ _ c.loop-at-test.false) ∙ c.loop-at.invariant
