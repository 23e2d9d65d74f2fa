-- The statements of specs/RefusedCalls.antt, each proved under its name.
-- Assumes nothing.
use Rattle.std.specs.Prelude.{Err, Ok, Option}
use Prim.Native.Nat.{ℕ}
use mathlib.Core.List.{List, [], ◌∷◌}
use mathlib.Core.Logic.{◌⊎◌, inl, inr}
use mathlib.Core.Path.{◌≡◌, refl, sym, ap, ◌∙◌}
use Rattle.layout.specs.Checked.{Checked}
use Rattle.layout.specs.Refusals.{refusal_number, refusal_second}
use Rattle.layout.specs.declared.span.Span.{Span}
use Rattle.layout.specs.TextCheck.{check_text}
use Rattle.layout.specs.declared.refusal.Refusal.{Refusal}
use Rattle.layout.proofs.Checked.{after-fault}
use Rattle.layout.proofs.Faults.{Only, only-value as value, only-test as test, only_step as step}
use Rattle.table.specs.Tags.{tag_of}
use Rattle.table.specs.declared.row.Row.{Row}
use Rattle.table.specs.declared.tag.Tag.{Tag}
use Rattle.format.specs.Card.{card_of, card_answer, shown}
use Rattle.format.specs.Display.{display}
use Rattle.format.specs.Listing.{listed, list_answer}
use Rattle.format.specs.Output.{answer}
use Rattle.format.specs.Parse.{parse}
use Rattle.format.specs.PublicCopy.{public_copy, copy_answer}
use Rattle.format.specs.PublicFacts.{public_facts}
use Rattle.format.specs.Read.{accepted}
use Rattle.format.specs.RefusedCalls.{OfReading, OfWriting, Faulty, LacksRoom, WriteRefuses, ListRefuses, CopyRefuses, CardRefuses}
use Rattle.format.specs.Resolve.{sections_of, resolve}
use Rattle.format.specs.Rules.{check_texts, check_row, check_rows}
use Rattle.format.specs.Secrecy.{made}
use Rattle.format.specs.Write.{written, written_table, write_answer}
use Rattle.format.proofs.Card.{card-of-facts}
use Rattle.format.proofs.EarlyFaults.{reading-refuses}
use Rattle.format.proofs.Output.{for-room}
use Rattle.format.proofs.RoundTrips.{lists-sections}
use Rattle.format.proofs.Secrecy.{copy-of-facts}

-- a call that is refused by a fault of what its job goes by, and else makes bytes
pub refused-call :
    {A : Type 0} (c : Checked A) (made : Checked (List ℕ)) (Number : ℕ → Type 0) →
    ((r : Refusal) → c ≡ Err r → Number (refusal_number r) × (refusal_second r ≡ 0)) →
    ((r : Refusal) → c ≡ Err r → made ≡ Err r) →
    ((a : A) → c ≡ Ok a → (bytes : List ℕ) × (made ≡ Ok bytes)) →
    (room : ℕ) (refusal : Refusal) →
    answer made room ≡ Err refusal →
    Faulty c Number refusal ⊎ LacksRoom made room refusal
unfolding answer
refused-call {A} c made Number numbers faults goods room refusal e = go c refl
  where
    told : {m : Checked (List ℕ)} → made ≡ m → answer m room ≡ Err refusal
    told is = sym (ap (λ (m : Checked (List ℕ)). answer m room) is) ∙ e

    go : (d : Checked A) → c ≡ d → Faulty c Number refusal ⊎ LacksRoom made room refusal
    go (Err r) f =
        let same = told (faults r f) in
        let found : c ≡ Err refusal = cc in
        let (number, second) = numbers refusal found in
        inl (found, number, second)
    go (Ok a) f =
        let (bytes, is) = goods a f in
        let (lacks, short) = for-room bytes room refusal (told is) in
        inr (bytes, is, lacks, short)

-- ---- writing

-- a refusal of writing by itself: one of these, with second number 0
abbrev Late : Refusal → Type 0
Late r = OfWriting (refusal_number r) × (refusal_second r ≡ 0)

text : (bytes : List ℕ) (start count : ℕ) → Only Late (check_text bytes start count)
unfolding check_text
text bytes start count = test _ _ _ (inl refl, refl) (test _ _ _ (inr (inl refl), refl) (value tt))

module _ (payload edit : List ℕ) where
  texts : (spans : List Span) → Only Late (check_texts payload edit spans)
  unfolding check_texts
  texts [] = value tt
  texts (s ∷ spans) = step _ _ (text _ _ _) (λ _. texts spans)

  rows : (previous : Option Tag) (rs : List Row) → Only Late (check_rows payload edit previous rs)
  unfolding check_rows check_row
  rows previous [] = value tt
  rows previous (r ∷ rs) = step _ _ (test _ _ _ (inr (inr (inl refl)), refl) (texts _)) (λ _. rows (tag_of r.tag) rs)

  table : (t : List ℕ) → Only Late (written_table payload edit t)
  unfolding written_table written resolve
  table t =
      test _ _ _ (inr (inr (inl refl)), refl)
      (step _ _ (step _ _ (rows _ _) (λ _. value _)) (λ sections. test _ _ _ (inr (inr (inr refl)), refl) (value _)))

pub write-refuses : WriteRefuses
unfolding write_answer
write-refuses payload edit t room refusal e =
    refused-call (written_table payload edit t) (written_table payload edit t) OfWriting (table payload edit t).only (λ r f. f) (λ bytes f. (bytes, f)) room refusal e

-- ---- jobs over a payload

pub list-refuses : ListRefuses
unfolding list_answer listed
list-refuses p room refusal bytes e =
    refused-call (parse p) (listed p) OfReading (reading-refuses p) (λ r f. after-fault _ _ f) (λ rs f. (display (sections_of p [] rs), lists-sections p rs bytes f)) room refusal e

pub copy-refuses : CopyRefuses
unfolding copy_answer public_copy accepted
copy-refuses p room refusal bytes e =
    refused-call (parse p) (public_copy p) OfReading (reading-refuses p) (λ r f. after-fault _ _ f) (λ rs f. (made (public_facts p), copy-of-facts p (bytes, rw f))) room refusal e

pub card-refuses : CardRefuses
unfolding card_answer card_of public_copy accepted
card-refuses p room refusal bytes e =
    refused-call (parse p) (card_of p) OfReading (reading-refuses p) (λ r f. after-fault _ _ (after-fault _ _ f)) (λ rs f. (shown (public_facts p), card-of-facts p (bytes, rw f))) room refusal e
