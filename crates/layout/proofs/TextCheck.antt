-- What a text's check says, by its two tests; and what its answer says.
-- Assumes nothing.
use Rattle.std.specs.Prelude.{Err, Ok}
use Prim.Native.Nat.{ℕ, ◌≤◌, ◌<◌}
use mathlib.Core.Bool.{true, false}
use mathlib.Core.List.{List}
use mathlib.Core.Path.{◌≡◌}
use borrow.Author.Tests.{lt-ltb, le-ltb}
use lib.ListN.{length}
use Rattle.utf8.specs.Rfc3629.{well_formed}
use Rattle.find.specs.Nul.{until_nul}
use Rattle.layout.specs.Checked.{check}
use Rattle.layout.specs.Spans.{part}
use Rattle.layout.specs.TextCheck.{check_whole, check_text}
use Rattle.layout.specs.declared.refusal.Refusal.TheVariants.{NotUtf8, InnerNul}

module _ (text : List ℕ) where
  pub whole-not-utf8 : well_formed text ≡ false → check_whole text ≡ Err NotUtf8
  unfolding check
  whole-not-utf8 e = rw e

  pub whole-inner-nul : well_formed text ≡ true → until_nul text < length text → check_whole text ≡ Err InnerNul
  unfolding check
  whole-inner-nul e h = rw (e, lt-ltb (until_nul text) (length text) h)

  pub whole-passed : well_formed text ≡ true → length text ≤ until_nul text → check_whole text ≡ Ok tt
  unfolding check
  whole-passed e h = rw (e, le-ltb (until_nul text) (length text) h)

-- of a text that is a part of some bytes
module _ (bytes : List ℕ) (start count : ℕ) (text : List ℕ) (is : text ≡ part bytes start count) where
  pub check-not-utf8 : well_formed text ≡ false → check_text bytes start count ≡ Err NotUtf8
  unfolding check_text
  check-not-utf8 e = rw (← is) (whole-not-utf8 text e)

  pub check-passed : well_formed text ≡ true → length text ≤ until_nul text → check_text bytes start count ≡ Ok tt
  unfolding check_text
  check-passed e h = rw (← is) (whole-passed text e h)
