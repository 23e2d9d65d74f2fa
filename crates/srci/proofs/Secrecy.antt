-- The calls tell the public facts alone: the definitions' answers and outputs do.
-- Assumes nothing.
use Prim.Native.Nat.{ℕ}
use mathlib.Core.List.{List}
use mathlib.Core.Path.{sym, ap, ◌∙◌}
use Rattle.layout.specs.Refusals.{answer_number, answer_second, Answer}
use Rattle.format.specs.Card.{card_answer, card_output}
use Rattle.format.specs.PublicCopy.{copy_answer, copy_output}
use Rattle.format.specs.Secrecy.{SameCallOf}
use Rattle.format.proofs.Card.{same-card-call}
use Rattle.format.proofs.Secrecy.{same-call}
use Rattle.srci.specs.Secrecy.{TellFacts, CallsTellFacts, CardsTellFacts}

tell-facts : (answers : List ℕ → ℕ → Answer) (leaves : List ℕ → List ℕ → List ℕ) → SameCallOf answers leaves → TellFacts answers leaves
tell-facts answers leaves same p q o₁ o₂ a₁ a₂ r₁ r₂ s₁ s₂ ok ok' facts long c d =
    let (answer, (bytes, first, second)) = same p q ok ok' facts o₁ o₂ long in (
      c.answered ∙ ap answer_number answer ∙ sym d.answered,
      c.told ∙ ap answer_second answer ∙ sym d.told,
      (bytes, c.left ∙ first, d.left ∙ second),
    )

pub calls-tell-facts : CallsTellFacts
calls-tell-facts = tell-facts copy_answer copy_output same-call

pub cards-tell-facts : CardsTellFacts
cards-tell-facts = tell-facts card_answer card_output same-card-call
