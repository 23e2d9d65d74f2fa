-- The promises of specs/Promises.antt, each proved under its name.
use Rattle.std.specs.Prelude.{Err, Ok}
use Prim.Native.Nat.{ℕ, zero, suc}
use mathlib.Core.Path.{◌≡◌, refl, sym, ap, ap₂, ◌∙◌}
use mathlib.Core.List.{List, [], ◌∷◌, map}
use lib.ListN.{get_or}
use Rattle.layout.specs.declared.compression.SourceCompression.TheVariants.{None, Zlib}
use Rattle.layout.specs.declared.refusal.Refusal.{Refusal}
use Rattle.layout.specs.declared.refusal.Refusal.TheVariants.{Oversize, Ragged, MainHeader, Frame, Flag, Short, BodySize, Padding, EntrySize, OpenText, NotUtf8, InnerNul, Leftover, Compression, Unequal, NoRows, BadRow, WontFit, NoRoom, BadLine}
use Rattle.layout.specs.Kinds.{section_type, kind_number}
use Rattle.layout.specs.Refusals.{answer_number, answer_second, Answer}
use Rattle.layout.specs.Promises.{KindHasNumber, NumberHasKind, NumberHasCompression, NumbersTellAnswers, NumbersTellRefusals}

pub kind-has-number : KindHasNumber
kind-has-number zero = refl
kind-has-number (suc zero) = refl
kind-has-number (suc (suc zero)) = refl
kind-has-number (suc (suc (suc n))) = refl

pub number-has-kind : NumberHasKind
number-has-kind t n e = ap (λ (k : ℕ). section_type k) (ap kind_number e ∙ kind-has-number n) ∙ sym e

pub number-has-compression : NumberHasCompression
number-has-compression None = (refl, refl)
number-has-compression Zlib = (refl, refl)

-- the refusals in the order of their numbers, from 1
refusals : ℕ → List Refusal
refusals second =
    Oversize ∷
    Ragged ∷
    MainHeader ∷
    Frame ∷
    Flag ∷
    Short ∷
    BodySize ∷
    Padding ∷
    EntrySize ∷
    OpenText ∷
    NotUtf8 ∷
    InnerNul ∷
    Leftover ∷
    Compression ∷
    Unequal ∷
    NoRows second ∷
    BadRow ∷
    WontFit ∷
    NoRoom second ∷
    BadLine second ∷
    []

-- the answer that two numbers stand for
answer_of : ℕ → ℕ → Answer
answer_of number second = get_or (Ok second ∷ map Err (refusals second)) number (Ok second)

answer_back : (a : Answer) → answer_of (answer_number a) (answer_second a) ≡ a
unfolding answer_of refusals
answer_back (Ok stored) = refl
answer_back (Err Oversize) = refl
answer_back (Err Ragged) = refl
answer_back (Err MainHeader) = refl
answer_back (Err Frame) = refl
answer_back (Err Flag) = refl
answer_back (Err Short) = refl
answer_back (Err BodySize) = refl
answer_back (Err Padding) = refl
answer_back (Err EntrySize) = refl
answer_back (Err OpenText) = refl
answer_back (Err NotUtf8) = refl
answer_back (Err InnerNul) = refl
answer_back (Err Leftover) = refl
answer_back (Err Compression) = refl
answer_back (Err Unequal) = refl
answer_back (Err (NoRows rows)) = refl
answer_back (Err BadRow) = refl
answer_back (Err WontFit) = refl
answer_back (Err (NoRoom bytes)) = refl
answer_back (Err (BadLine line)) = refl

pub numbers-tell-answers : NumbersTellAnswers
numbers-tell-answers a b n s = sym (answer_back a) ∙ ap₂ answer_of n s ∙ answer_back b

pub numbers-tell-refusals : NumbersTellRefusals
numbers-tell-refusals a b n s = let e = numbers-tell-answers (Err a) (Err b) n s in cc
