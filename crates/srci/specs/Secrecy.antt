-- Demand 3 of the calls themselves: what `srci_public_copy` and `srci_card` answer and store tells of an accepted payload nothing but its public
-- facts. Proved in proofs/Secrecy.antt.
use Rattle.std.specs.Prelude.{ℕ, List, ◌++◌, ◌≡◌, length, drop}
use Rattle.layout.specs.Refusals.{answer_number, answer_second, Answer}
use Rattle.format.specs.Card.{card_answer, card_output}
use Rattle.format.specs.PublicCopy.{copy_answer, copy_output}
use Rattle.format.specs.PublicFacts.{public_facts}
use Rattle.format.specs.Secrecy.{AcceptedPayload}

-- what the contract of an entry point says of a call on a payload with an output, by what its job answers and leaves: what it answers, the output
-- afterwards, and what `second` holds afterwards
pub record Called (answers : List ℕ → ℕ → Answer) (leaves : List ℕ → List ℕ → List ℕ) (payload output : List ℕ) (answer : ℕ) (after : List ℕ) (second : ℕ) : Type 0 where
  pub answered : answer ≡ answer_number (answers payload (length output))
  pub left : after ≡ leaves payload output
  pub told : second ≡ answer_second (answers payload (length output))

-- two calls on accepted payloads with equal facts, whatever else these hold, with outputs of one length that hold whatever they hold: the same answer,
-- the same second number, and the same bytes stored; too short an output holds none of them
abbrev pub TellFacts : (List ℕ → ℕ → Answer) → (List ℕ → List ℕ → List ℕ) → Type 0
TellFacts answers leaves =
    (p q o₁ o₂ a₁ a₂ : List ℕ) (r₁ r₂ s₁ s₂ : ℕ) →
    AcceptedPayload p →
    AcceptedPayload q →
    public_facts p ≡ public_facts q →
    length o₁ ≡ length o₂ →
    Called answers leaves p o₁ r₁ a₁ s₁ →
    Called answers leaves q o₂ r₂ a₂ s₂ →
    (r₁ ≡ r₂) × (s₁ ≡ s₂) × ((bytes : List ℕ) × (a₁ ≡ bytes ++ drop (length bytes) o₁) × (a₂ ≡ bytes ++ drop (length bytes) o₂))

abbrev pub CallsTellFacts : Type 0
CallsTellFacts = TellFacts copy_answer copy_output

abbrev pub CardsTellFacts : Type 0
CardsTellFacts = TellFacts card_answer card_output
