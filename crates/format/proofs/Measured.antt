-- Measure, then store: a call that writes what a walk finds twice, first to an output of no bytes. What it answers and leaves is what its job's definition says:
-- one law for the listing, the card, the public copy and the sheet of a payload, whose walk is in sheet/proofs/SheetFound.antt.
-- Assumes nothing.
use Rattle.std.specs.Prelude.{Err, Ok}
use Rattle.layout.specs.Refusals.{Answer}
use Prim.Native.Nat.{ℕ, ◌≤◌, ◌<◌}
use mathlib.Core.List.{List, [], ◌++◌}
use mathlib.Core.Path.{◌≡◌, sym, ap, ◌∙◌}
use native.Mathlib.Omega.{arith}
use lib.ListN.{length}
use lib.Seq.{sets}
use Rattle.wire.proofs.Sets.{sets-past}
use Rattle.layout.specs.Checked.{Checked}
use Rattle.layout.specs.declared.refusal.Refusal.{Refusal}
use Rattle.layout.specs.declared.refusal.Refusal.TheVariants.{NoRoom}
use Rattle.layout.proofs.Checked.{after-fault, is-good}
use Rattle.table.specs.declared.row.Row.{Row}
use Rattle.format.specs.Card.{card_of}
use Rattle.format.specs.CardWalk.{card}
use Rattle.format.specs.CopyWalk.{copy}
use Rattle.format.specs.Lines.{listing}
use Rattle.format.specs.Listing.{listed}
use Rattle.format.specs.Output.{answer, output_after}
use Rattle.format.specs.Parse.{parse}
use Rattle.format.specs.PublicCopy.{public_copy}
use Rattle.format.specs.Read.{accepted}
use Rattle.format.specs.Secrecy.{AcceptedPayload}
use Rattle.format.specs.WellFormed.{Bytes}
use Rattle.format.proofs.CardFound.{card-found}
use Rattle.format.proofs.CopyFound.{copy-found}
use Rattle.format.proofs.LinesFound.{listing-found}
use Rattle.format.proofs.Output.{refused, told-no-room, told-room}

-- a job by a walk: it refuses what reading refuses, and makes of any other payload what the walk finds
pub record ByWalk (made : List ℕ → Checked (List ℕ)) (walk : List ℕ → List ℕ) : Type 0 where
  pub refuses : (p : List ℕ) {refusal : Refusal} → parse p ≡ Err refusal → made p ≡ Err refusal
  pub finds : (p : List ℕ) (rows : List Row) → Bytes p → parse p ≡ Ok rows → made p ≡ Ok (walk p)

pub listing-by-walk : ByWalk listed listing
unfolding listed
listing-by-walk = record { refuses = λ p e. after-fault _ _ e; finds = listing-found }

pub copy-by-walk : ByWalk public_copy copy
unfolding public_copy
copy-by-walk = record { refuses = λ p e. after-fault _ _ e; finds = copy-found }

pub card-by-walk : ByWalk card_of card
unfolding card_of
card-by-walk = record { refuses = λ p e. after-fault _ _ (copy-by-walk.refuses p e); finds = card-found }

module _ {made : List ℕ → Checked (List ℕ)} {walk : List ℕ → List ℕ} (job : ByWalk made walk) (p output : List ℕ) where
  -- an answer and an output as the job's definition has them
  abbrev pub Met : Answer → List ℕ → Type 0
  Met told after = (told ≡ answer (made p) (length output)) × (after ≡ output_after (made p) output)

  pub met-refused : {refusal : Refusal} → parse p ≡ Err refusal → Met (Err refusal) output
  met-refused e =
      let (told, after) = refused (made p) output (job.refuses p e) in
      (sym told, sym after)

  -- of an accepted payload, with the answer to the first writing, and what that leaves of no bytes
  module _ (whole : AcceptedPayload p) {size : ℕ} {none : List ℕ} (measured : (size ≡ length (walk p)) × (none ≡ sets [] 0 (walk p))) where
    found : made p ≡ Ok (walk p)
    unfolding accepted
    found =
        let (rows, e) = is-good (parse p) whole.1 in
        job.finds p rows whole.0 e

    untouched : none ++ output ≡ output
    untouched = ap (λ (l : List ℕ). l ++ output) (measured.1 ∙ sets-past (walk p) [] 0 (omega arith))

    pub met-short : length output < size → Met (Err (NoRoom size)) (none ++ output)
    met-short short =
        let (told, after) = told-no-room (made p) output found size measured.0 short in
        (told, untouched ∙ after)

    pub met-stored : {after : List ℕ} → size ≤ length output → after ≡ sets (none ++ output) 0 (walk p) → Met (Ok size) after
    met-stored room stored =
        let (told, after) = told-room (made p) output found size measured.0 room in
        (told, stored ∙ ap (λ (l : List ℕ). sets l 0 (walk p)) untouched ∙ after)
