-- Demand 3 as statements about the definitions, of every accepted payload: what a holder of the public copy can learn. Each is proved under its
-- name in proofs/Secrecy.antt.
use Rattle.layout.specs.Refusals.{Answer}
use Rattle.std.specs.Prelude.{ℕ, ◌≤◌, ◌<◌, true, List, [], ◌++◌, map, ◌≡◌, length, drop, replicate, Err, Ok}
use Rattle.table.specs.declared.row.Row.{Row}
use Rattle.layout.specs.declared.refusal.Refusal.{Refusal}
use Rattle.layout.specs.declared.refusal.Refusal.TheVariants.{NoRoom}
use Rattle.format.specs.Encoding.{encode}
use Rattle.format.specs.PublicCopy.{public_copy, copy_answer, copy_output}
use Rattle.format.specs.PublicFacts.{Fact, plain_contents, packed_contents, name_texts, argument_pairs, public_facts}
use Rattle.format.specs.Read.{accepted}
use Rattle.format.specs.RoundTrips.{NumbersFit}
use Rattle.format.specs.Sections.{Section, plain, packed, names, arguments}
use Rattle.format.specs.WellFormed.{Bytes, All}
use Rattle.format.specs.Write.{written}

abbrev pub AcceptedPayload : List ℕ → Type 0
AcceptedPayload p = Bytes p × (accepted p ≡ true)

-- ---- the copy is a function of the facts

-- the section that a public copy has for a fact: empty contents, names with content size 1, the pairs
unfoldable pub section_of : Fact → Section
section_of (plain_contents count) = plain 0 (replicate count [])
section_of (packed_contents count) = packed 0 [] count 0
section_of (name_texts count texts) = names (map (λ (text : List ℕ). record { text = text; content_size = 1 }) texts)
section_of (argument_pairs count pairs) = arguments pairs

-- the bytes that facts make, without any payload
unfoldable pub made : List Fact → List ℕ
made facts = encode (map section_of facts)

abbrev pub CopyOfFacts : Type 0
CopyOfFacts = (p : List ℕ) → AcceptedPayload p → public_copy p ≡ Ok (made (public_facts p))

-- ---- equal exactly when

-- whatever else two payloads hold, their public copies are equal if and only if their public facts are
abbrev pub EqualExactly : Type 0
EqualExactly =
    (p q : List ℕ) →
    AcceptedPayload p →
    AcceptedPayload q →
    (public_facts p ≡ public_facts q → public_copy p ≡ public_copy q) × (public_copy p ≡ public_copy q → public_facts p ≡ public_facts q)

-- ---- the same call

-- of a job, by what it answers and what it leaves in its output: with equal facts, and outputs of one length that hold whatever they hold, the
-- answer is the same, and each output afterwards is the same bytes followed by what it held; too short an output holds none of them
abbrev pub SameCallOf : (List ℕ → ℕ → Answer) → (List ℕ → List ℕ → List ℕ) → Type 0
SameCallOf answers leaves =
    (p q : List ℕ) →
    AcceptedPayload p →
    AcceptedPayload q →
    public_facts p ≡ public_facts q →
    (o₁ o₂ : List ℕ) →
    length o₁ ≡ length o₂ →
    (answers p (length o₁) ≡ answers q (length o₂))
    × ((bytes : List ℕ) × (leaves p o₁ ≡ bytes ++ drop (length bytes) o₁) × (leaves q o₂ ≡ bytes ++ drop (length bytes) o₂))

abbrev pub SameCall : Type 0
SameCall = SameCallOf copy_answer copy_output

-- ---- each public copy

-- is accepted, has its payload's facts, is its own public copy, and is not longer than its payload
abbrev pub CopyIsPublic : Type 0
CopyIsPublic =
    (p : List ℕ) →
    AcceptedPayload p →
    (c : List ℕ)
    × (public_copy p ≡ Ok c)
    × AcceptedPayload c
    × (public_facts c ≡ public_facts p)
    × (public_copy c ≡ Ok c)
    × (length c ≤ length p)

-- the public copy of an accepted payload is refused with 19 alone, and with its own length, which does not fit
abbrev pub RefusedForRoom : Type 0
RefusedForRoom =
    (p : List ℕ) (room : ℕ) (refusal : Refusal) →
    AcceptedPayload p →
    copy_answer p room ≡ Err refusal →
    (refusal ≡ NoRoom (length (made (public_facts p)))) × (room < length (made (public_facts p)))

-- ---- what was written

-- it is accepted, and so has a public copy
abbrev pub WrittenIsAccepted : Type 0
WrittenIsAccepted =
    (payload edit q : List ℕ) (rows : List Row) →
    Bytes payload →
    Bytes edit →
    All NumbersFit rows →
    written payload edit rows ≡ Ok q →
    AcceptedPayload q × (c : List ℕ) × (public_copy q ≡ Ok c)
