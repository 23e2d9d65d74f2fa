-- With which of document 01's refusals a call of each job with lent output is refused. Each statement is proved under its name in
-- proofs/RefusedCalls.antt. Reading's refusals are in Promises.antt.
use Rattle.std.specs.Prelude.{ℕ, ◌≤◌, ◌<◌, List, ◌⊎◌, ◌≡◌, length, Err, Ok}
use Rattle.layout.specs.Checked.{Checked}
use Rattle.layout.specs.Refusals.{refusal_number, refusal_second, Answer}
use Rattle.layout.specs.declared.refusal.Refusal.{Refusal}
use Rattle.layout.specs.declared.refusal.Refusal.TheVariants.{NoRoom}
use Rattle.format.specs.Card.{card_of, card_answer}
use Rattle.format.specs.Listing.{listed, list_answer}
use Rattle.format.specs.Parse.{parse}
use Rattle.format.specs.PublicCopy.{public_copy, copy_answer}
use Rattle.format.specs.WellFormed.{Bytes}
use Rattle.format.specs.Write.{written_table, write_answer}

-- the numbers of the faults that reading and writing come to
abbrev pub OfReading : ℕ → Type 0
OfReading n = (1 ≤ n) × (n ≤ 15)

abbrev pub OfWriting : ℕ → Type 0
OfWriting n = (n ≡ 11) ⊎ (n ≡ 12) ⊎ (n ≡ 17) ⊎ (n ≡ 18)

-- a definition comes to a fault, which has such a number, and 0 as second number
abbrev pub Faulty : {A : Type 0} → Checked A → (ℕ → Type 0) → Refusal → Type 0
Faulty c Number refusal = (c ≡ Err refusal) × Number (refusal_number refusal) × (refusal_second refusal ≡ 0)

-- 19: bytes are made, their length is the second number, and it is more than the room
abbrev pub LacksRoom : Checked (List ℕ) → ℕ → Refusal → Type 0
LacksRoom made room refusal = (bytes : List ℕ) × (made ≡ Ok bytes) × (refusal ≡ NoRoom (length bytes)) × (room < length bytes)

-- writing is refused with 11, 12, 17 or 18, then 19
abbrev pub WriteRefuses : Type 0
WriteRefuses =
    (payload edit table : List ℕ) (room : ℕ) (refusal : Refusal) →
    write_answer payload edit table room ≡ Err refusal →
    (let made : Checked (List ℕ) = written_table payload edit table in
    Faulty made OfWriting refusal ⊎ LacksRoom made room refusal)

-- a job over a payload is refused with reading's 1 to 15, then 19
abbrev pub RefusesAsReading : (List ℕ → Checked (List ℕ)) → (List ℕ → ℕ → Answer) → Type 0
RefusesAsReading job answers =
    (p : List ℕ) (room : ℕ) (refusal : Refusal) →
    Bytes p →
    answers p room ≡ Err refusal →
    Faulty (parse p) OfReading refusal ⊎ LacksRoom (job p) room refusal

-- so is the listing
abbrev pub ListRefuses : Type 0
ListRefuses = RefusesAsReading listed list_answer

-- the public copy
abbrev pub CopyRefuses : Type 0
CopyRefuses = RefusesAsReading public_copy copy_answer

-- and the card
abbrev pub CardRefuses : Type 0
CardRefuses = RefusesAsReading card_of card_answer
