-- What the layout's definitions promise of each other. Each is proved under its name in proofs/Promises.antt.
use Rattle.std.specs.Prelude.{ℕ, ◌≡◌, Some}
use Rattle.layout.specs.declared.section_type.SourceInfoSectionType.{SourceInfoSectionType}
use Rattle.layout.specs.declared.compression.SourceCompression.{SourceCompression}
use Rattle.layout.specs.declared.refusal.Refusal.{Refusal}
use Rattle.layout.specs.Kinds.{section_type, kind_number, compression, checked_compression, compression_number}
use Rattle.layout.specs.Refusals.{refusal_number, refusal_second, answer_number, answer_second, Answer}

-- a number is that of the kind that it stands for
abbrev pub KindHasNumber : Type 0
KindHasNumber = (n : ℕ) → kind_number (section_type n) ≡ n

-- a kind that some number stands for is the one that its own number stands for
abbrev pub NumberHasKind : Type 0
NumberHasKind = (t : SourceInfoSectionType) (n : ℕ) → t ≡ section_type n → section_type (kind_number t) ≡ t

-- a compression's number stands for it, and where it was checked it is told without a test
abbrev pub NumberHasCompression : Type 0
NumberHasCompression = (c : SourceCompression) → (compression (compression_number c) ≡ Some c) × (checked_compression (compression_number c) ≡ c)

-- an answer's two numbers tell it from every other answer
abbrev pub NumbersTellAnswers : Type 0
NumbersTellAnswers =
    (a b : Answer) → answer_number a ≡ answer_number b → answer_second a ≡ answer_second b → a ≡ b

-- and so do a refusal's
abbrev pub NumbersTellRefusals : Type 0
NumbersTellRefusals =
    (a b : Refusal) → refusal_number a ≡ refusal_number b → refusal_second a ≡ refusal_second b → a ≡ b
