-- Bytes that are plain, one by one.
-- Assumes nothing.
use Prim.Native.Nat.{ℕ, ◌<◌}
use mathlib.Core.Bool.{Bool, true, false, and-eq-true_iff}
use mathlib.Core.List.{List}
use mathlib.Core.Path.{◌≡◌, refl}
use borrow.Author.Tests.{ltb-true}
use lib.ListN.{length, get_or}
use Rattle.std.proofs.lemmas.List.Folds.{list_all_at}
use Rattle.utf8.specs.Plain.{is_plain, are_plain}

pub plain_at : (s : List ℕ) → are_plain s ≡ true → (k : ℕ) → k < length s → (0 < get_or s k 0) × (get_or s k 0 < 0x80)
plain_at s e k h = go (is_plain (get_or s k 0)) refl
  where
    go : (b : Bool) → is_plain (get_or s k 0) ≡ b → (0 < get_or s k 0) × (get_or s k 0 < 0x80)
    go true f = let (some, low) = (and-eq-true_iff _ _).0 f in (ltb-true _ _ some, ltb-true _ _ low)
    go false f =
        let other = list_all_at is_plain s k 0 h f in
        absurd cc
