-- What a program prints, by what the job answers for an output of as many bytes as are printed at most.
-- Assumes nothing.
use Rattle.std.specs.Prelude.{Err, Ok}
use Prim.Native.Nat.{ℕ, ◌≤◌, ◌<◌}
use mathlib.Core.Bool.{Bool, true, false, cond}
use mathlib.Core.List.{List, [], ◌∷◌, ◌++◌}
use mathlib.Core.Path.{◌≡◌, refl, ap, ◌∙◌}
use native.Mathlib.Nat.{zero-add}
use native.Mathlib.Omega.{arith}
use borrow.Author.Tests.{le-leb, lt-leb}
use lib.Dec.{leb}
use lib.ListN.{length, drop, length-append}
use lib.Seq.{sets, sets-eq}
use Rattle.layout.specs.Checked.{Checked}
use Rattle.layout.specs.Refusals.{refusal_number, Answer}
use Rattle.layout.specs.declared.refusal.Refusal.{Refusal}
use Rattle.layout.specs.declared.refusal.Refusal.TheVariants.{Oversize, Ragged, MainHeader, Frame, Flag, Short, BodySize, Padding, EntrySize, OpenText, NotUtf8, InnerNul, Leftover, Compression, Unequal, NoRows, BadRow, WontFit, NoRoom, BadLine}
use Rattle.format.specs.Display.{ascii, decimal}
use Rattle.format.specs.Output.{answer, output_after}
use Rattle.format.specs.Print.{print_limit, refused_line, longer_line, told, told_length, outcome, printed}
use Rattle.format.proofs.DecimalLaws.{decimal-short}

module _ (job : List ℕ → Checked (List ℕ)) (input : List ℕ) where
  pub printed-long : print_limit < length input → printed job input ≡ longer_line
  unfolding printed
  printed-long h = rw (lt-leb (length input) print_limit h)

  pub printed-outcome : length input ≤ print_limit → printed job input ≡ outcome (job input)
  unfolding printed
  printed-outcome h = rw (le-leb (length input) print_limit h)

pub longer-short : length longer_line ≤ 27
unfolding ascii
longer-short = omega arith

-- the line of a refusal is short
refusal-small : (refusal : Refusal) → refusal_number refusal ≤ 99
refusal-small Oversize = omega arith
refusal-small Ragged = omega arith
refusal-small MainHeader = omega arith
refusal-small Frame = omega arith
refusal-small Flag = omega arith
refusal-small Short = omega arith
refusal-small BodySize = omega arith
refusal-small Padding = omega arith
refusal-small EntrySize = omega arith
refusal-small OpenText = omega arith
refusal-small NotUtf8 = omega arith
refusal-small InnerNul = omega arith
refusal-small Leftover = omega arith
refusal-small Compression = omega arith
refusal-small Unequal = omega arith
refusal-small (NoRows n) = omega arith
refusal-small BadRow = omega arith
refusal-small WontFit = omega arith
refusal-small (NoRoom n) = omega arith
refusal-small (BadLine n) = omega arith

refused-short : (refusal : Refusal) → length (refused_line refusal) ≤ 14
unfolding ascii
refused-short refusal =
    let number : ℕ = refusal_number refusal in
    omega (arith, decimal-short 1 number (omega (arith, refusal-small refusal)), length-append (decimal number) (10 ∷ []))

module _ (output : List ℕ) (whole : length output ≡ print_limit) where
  -- an accepted outcome is stored, and printed
  pub outcome-accepted :
      (made : Checked (List ℕ)) (count : ℕ) →
      answer made (length output) ≡ Ok count →
      (count ≡ length (outcome made)) × (output_after made output ≡ outcome made ++ drop (length (outcome made)) output)
  unfolding answer output_after outcome
  outcome-accepted (Err refusal) count e = absurd cc
  outcome-accepted (Ok q) count e = rw whole (go (leb (length q) print_limit) (rw whole at e))
    where
      go :
          (fits : Bool) →
          cond fits (Ok (length q)) (Err (NoRoom (length q))) ≡ Ok count →
          (let said : List ℕ = cond fits q (refused_line (NoRoom (length q))) in
          (count ≡ length said) × (cond fits (q ++ drop (length q) output) output ≡ said ++ drop (length said) output))
      go true f = let size : count ≡ length q = cc in (size, refl)
      go false f = absurd cc

  -- of a refused one the refusal is printed, and the output is as it was
  pub outcome-refused :
      (made : Checked (List ℕ)) (refusal : Refusal) →
      answer made (length output) ≡ Err refusal →
      (output_after made output ≡ output) × (outcome made ≡ refused_line refusal)
  unfolding answer output_after outcome
  outcome-refused (Err r) refusal e = let same : r ≡ refusal = cc in (refl, ap refused_line same)
  outcome-refused (Ok q) refusal e = rw whole (go (leb (length q) print_limit) (rw whole at e))
    where
      go :
          (fits : Bool) →
          cond fits (Ok (length q)) (Err (NoRoom (length q))) ≡ Err refusal →
          (cond fits (q ++ drop (length q) output) output ≡ output) × (cond fits q (refused_line (NoRoom (length q))) ≡ refused_line refusal)
      go true f = absurd cc
      go false f = let same : NoRoom (length q) ≡ refusal = cc in (refl, ap refused_line same)

  -- so what is printed of the answer, over what the call left, is the outcome
  pub outcome-told :
      (made : Checked (List ℕ)) →
      (let a : Answer = answer made (length output) in
      (told_length a ≡ length (outcome made)) × (told a (output_after made output) ≡ outcome made ++ drop (length (outcome made)) output))
  unfolding told told_length
  outcome-told made = go (answer made (length output)) refl
    where
      go :
          (a : Answer) →
          answer made (length output) ≡ a →
          (told_length a ≡ length (outcome made)) × (told a (output_after made output) ≡ outcome made ++ drop (length (outcome made)) output)
      go (Ok count) e = outcome-accepted made count e
      go (Err refusal) e =
          let (left, line) = outcome-refused made refusal e in
          rw (line, left) (refl, sets-eq (refused_line refusal) output 0 (omega (arith, whole, refused-short refusal)) ∙ rw zero-add)

-- ---- what is stored of it

module _ (job : List ℕ → Checked (List ℕ)) (input output : List ℕ) (whole : length output ≡ print_limit) where
  -- as many bytes as are printed, and these at the output's start
  abbrev pub Printed : ℕ → List ℕ → Type 0
  Printed size after = (size ≡ length (printed job input)) × (after ≡ printed job input ++ drop (length (printed job input)) output)

  pub longer-printed : {size : ℕ} {after : List ℕ} → print_limit < length input → (size ≡ length longer_line) × (after ≡ sets output 0 longer_line) → Printed size after
  longer-printed long (many, stored) =
      rw (printed-long job input long) (many, stored ∙ sets-eq longer_line output 0 (omega (arith, longer-short)) ∙ rw zero-add)

  -- by the call's answer and the output that it left
  pub answer-printed :
      {a : Answer} {left : List ℕ} {size : ℕ} {after : List ℕ} →
      length input ≤ print_limit →
      (a ≡ answer (job input) (length output)) × (left ≡ output_after (job input) output) →
      (size ≡ told_length a) × (after ≡ told a left) →
      Printed size after
  answer-printed short (answered, kept) (many, stored) =
      let (long, is) = outcome-told output whole (job input) in
      rw (printed-outcome job input short) (many ∙ rw answered long, stored ∙ rw (answered, kept) is)
