-- A text of ASCII without a NUL passes the check of a text.
-- Assumes nothing.
use Rattle.std.specs.Prelude.{Ok}
use Prim.Native.Nat.{ℕ, ◌≤◌, ◌<◌}
use mathlib.Core.Bool.{Bool, true, false}
use mathlib.Core.List.{List}
use mathlib.Core.Path.{◌≡◌, refl}
use native.Mathlib.Omega.{arith}
use borrow.Author.Tests.{ltb-true, ltb-false}
use lib.Dec.{ltb}
use lib.ListN.{length, get_or}
use Rattle.find.specs.Nul.{until_nul}
use Rattle.find.proofs.NulLaws.{until-at}
use Rattle.utf8.proofs.Laws.{ascii-well-formed}
use Rattle.layout.specs.TextCheck.{check_whole}
use Rattle.layout.proofs.TextCheck.{whole-passed}

module _ (s : List ℕ) (plain : (k : ℕ) → k < length s → (0 < get_or s k 0) × (get_or s k 0 < 0x80)) where
  no_nul : length s ≤ until_nul s
  no_nul = go (ltb (until_nul s) (length s)) refl
    where
      go : (b : Bool) → ltb (until_nul s) (length s) ≡ b → length s ≤ until_nul s
      go true e = let h = ltb-true _ _ e in absurd (omega (arith, until-at s h, (plain (until_nul s) h).0))
      go false e = ltb-false _ _ e

  pub plain_passes : check_whole s ≡ Ok tt
  plain_passes = whole-passed s (ascii-well-formed s (λ k h. (plain k h).1)) no_nul
