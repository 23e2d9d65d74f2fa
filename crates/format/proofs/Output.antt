-- A call keeps the length of the output that it was lent; and what it answers and leaves there.
-- Assumes nothing.
use Rattle.std.specs.Prelude.{Err, Ok}
use Prim.Native.Nat.{ℕ, ◌≤◌, ◌<◌}
use native.Mathlib.Nat.{zero-add}
use native.Mathlib.Omega.{arith}
use mathlib.Core.Bool.{Bool, true, false, cond}
use mathlib.Core.Path.{◌≡◌, refl, sym, ap, ◌∙◌}
use mathlib.Core.List.{List, ◌++◌}
use borrow.Author.Tests.{leb-true, leb-false, le-leb, lt-leb}
use lib.Dec.{leb}
use lib.ListN.{length, drop, length-append, length-drop}
use lib.Seq.{sets, sets-eq}
use Rattle.layout.specs.Checked.{Checked}
use Rattle.layout.specs.declared.refusal.Refusal.{Refusal}
use Rattle.layout.specs.declared.refusal.Refusal.TheVariants.{NoRoom}
use Rattle.format.specs.Output.{answer, output_after}

pub stored-length : (c : Checked (List ℕ)) (output : List ℕ) → length (output_after c output) ≡ length output
unfolding output_after
stored-length (Err refusal) output = refl
stored-length (Ok bytes) output = go (leb (length bytes) (length output)) refl
  where
    go :
        (fits : Bool) →
        leb (length bytes) (length output) ≡ fits →
        length (cond fits (bytes ++ drop (length bytes) output) output) ≡ length output
    go true e = simp (length-append, length-drop) (omega (arith, leb-true))
    go false e = refl

-- what a call answers and leaves, by what the job makes and by the room for it
module _ (made : Checked (List ℕ)) (output : List ℕ) where
  pub refused : {refusal : Refusal} → made ≡ Err refusal → (answer made (length output) ≡ Err refusal) × (output_after made output ≡ output)
  unfolding answer output_after
  refused e = (rw e, rw e)

  module _ {bytes : List ℕ} (e : made ≡ Ok bytes) where
    pub no_room : length output < length bytes → (answer made (length output) ≡ Err (NoRoom (length bytes))) × (output_after made output ≡ output)
    unfolding answer output_after
    no_room h = (rw (e, lt-leb (length bytes) (length output) h), rw (e, lt-leb (length bytes) (length output) h))

    pub room :
        length bytes ≤ length output →
        (answer made (length output) ≡ Ok (length bytes)) × (output_after made output ≡ bytes ++ drop (length bytes) output)
    unfolding answer output_after
    room h = (rw (e, le-leb (length bytes) (length output) h), rw (e, le-leb (length bytes) (length output) h))

    -- the same of a call that knows the size: it refuses where that is more than the room, and else stores the bytes from the output's start on
    module _ (size : ℕ) (is : size ≡ length bytes) where
      pub told-no-room : length output < size → (Err (NoRoom size) ≡ answer made (length output)) × (output ≡ output_after made output)
      told-no-room h =
          let short = no_room (omega arith) in
          (ap (λ (k : ℕ). Err (NoRoom k)) is ∙ sym short.0, sym short.1)

      pub told-room : size ≤ length output → (Ok size ≡ answer made (length output)) × (sets output 0 bytes ≡ output_after made output)
      told-room h =
          let all = room (omega arith) in
          (ap Ok is ∙ sym all.0, sets-eq bytes output 0 (omega arith) ∙ rw zero-add (sym all.1))

-- where bytes are made, only the room for them can be lacking
pub for-room :
    (bytes : List ℕ) (room : ℕ) (refusal : Refusal) →
    answer (Ok bytes) room ≡ Err refusal →
    (refusal ≡ NoRoom (length bytes)) × (room < length bytes)
unfolding answer
for-room bytes room refusal e = go (leb (length bytes) room) refl e
  where
    go :
        (fits : Bool) →
        leb (length bytes) room ≡ fits →
        cond fits (Ok (length bytes)) (Err (NoRoom (length bytes))) ≡ Err refusal →
        (refusal ≡ NoRoom (length bytes)) × (room < length bytes)
    go true f g = absurd cc
    go false f g = (cc, leb-false (length bytes) room f)
