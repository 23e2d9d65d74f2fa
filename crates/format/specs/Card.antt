-- The card: the listing of the public copy, with lent output. And what it shows, by the public facts alone, proved in proofs/Card.antt.
use Rattle.layout.specs.Refusals.{Answer}
use Rattle.std.specs.Prelude.{ℕ, List, map, ◌≡◌, Ok}
use Rattle.layout.specs.Checked.{Checked, then}
use Rattle.format.specs.Display.{plain_line, packed_line, names_line, arguments_line, page}
use Rattle.format.specs.Listing.{listed}
use Rattle.format.specs.Output.{answer, output_after}
use Rattle.format.specs.Print.{printed}
use Rattle.format.specs.PublicCopy.{public_copy}
use Rattle.format.specs.PublicFacts.{Fact, plain_contents, packed_contents, name_texts, argument_pairs, public_facts}
use Rattle.format.specs.Secrecy.{AcceptedPayload, SameCallOf}

-- the public copy, then its listing; or reading's refusal
unfoldable pub card_of : List ℕ → Checked (List ℕ)
card_of payload = then (public_copy payload) (λ copy. listed copy)

-- what the call answers where so many bytes are lent
unfoldable pub card_answer : List ℕ → ℕ → Answer
card_answer payload room = answer (card_of payload) room

-- the lent output after the call
unfoldable pub card_output : List ℕ → List ℕ → List ℕ
card_output payload output = output_after (card_of payload) output

-- what show_card prints
abbrev pub card_printed : List ℕ → List ℕ
card_printed input = printed card_of input

-- ---- the card is a function of the facts

-- what the line of a fact says after its place: its count, and of packed contents that no bytes are there
unfoldable pub fact_line : Fact → List ℕ
fact_line (plain_contents count) = plain_line count
fact_line (packed_contents count) = packed_line count 0
fact_line (name_texts count texts) = names_line count
fact_line (argument_pairs count pairs) = arguments_line count

-- the card that facts make, without any payload: a line that counts them, then a line for each
unfoldable pub shown : List Fact → List ℕ
shown facts = page (map fact_line facts)

-- an accepted payload's card has a line for each of its facts, in order, with its count, and nothing else
abbrev pub CardOfFacts : Type 0
CardOfFacts = (p : List ℕ) → AcceptedPayload p → card_of p ≡ Ok (shown (public_facts p))

-- with equal facts, the same answer and the same stored bytes
abbrev pub SameCardCall : Type 0
SameCardCall = SameCallOf card_answer card_output
