-- The laws of the first NUL, from those of `until`; and what a search for it answers.
-- Assumes nothing.
use Rattle.std.specs.Prelude.{is_some, Some, None}
use mathlib.Core.Bool.{Bool, true, false, cond}
use mathlib.Core.Path.{◌≡◌, refl, sym, ap, ◌∙◌}
use mathlib.Core.List.{List, [], ◌∷◌, ◌++◌}
use Prim.Native.Nat.{ℕ, ◌+◌, ◌≤◌, ◌<◌}
use native.Mathlib.Omega.{arith}
use lib.Dec.{ltb}
use lib.ListN.{length, get_or, take, drop}
use borrow.Author.Tests.{eqb-true, ne_eqb, eq-eqb, ltb-true, ltb-false}
use Rattle.find.specs.Find.{is_any}
use Rattle.find.specs.Nul.{until_nul, has_nul, first_nul}
use Rattle.find.proofs.FindLaws as laws

abbrev nul : ℕ → Bool
nul = is_any (0 ∷ [])

pub until-length : (s : List ℕ) → until_nul s ≤ length s
unfolding until_nul
until-length = laws.until-least nul

pub until-at : (s : List ℕ) → until_nul s < length s → get_or s (until_nul s) 0 ≡ 0
unfolding until_nul
until-at s h = eqb-true _ 0 (sym (laws.any-one 0 (get_or s (until_nul s) 0)) ∙ laws.until-at nul s h)

pub until-prefix : (s : List ℕ) (n : ℕ) → until_nul s < n → until_nul (take n s) ≡ until_nul s
unfolding until_nul
until-prefix = laws.until-prefix nul

pub until-in-prefix : (s : List ℕ) (n : ℕ) → until_nul (take n s) < length (take n s) → until_nul (take n s) ≡ until_nul s
unfolding until_nul
until-in-prefix = laws.until-in-prefix nul

pub until-take : (s : List ℕ) (n : ℕ) → n ≤ until_nul s → until_nul (take n s) ≡ length (take n s)
unfolding until_nul
until-take = laws.until-take nul

-- a text without a NUL ends at the one that follows it
pub until-closed : (text after : List ℕ) → length text ≤ until_nul text → until_nul (text ++ 0 ∷ after) ≡ length text
unfolding until_nul
until-closed text after = laws.until-closed nul text after 0 refl

-- a step over a run without a NUL
pub until-run : (s : List ℕ) (i n : ℕ) → i + n ≤ length s → ((k : ℕ) → k < n → 0 < get_or s (i + k) 0) → i + n + until_nul (drop (i + n) s) ≡ i + until_nul (drop i s)
unfolding until_nul
until-run s i n h a = laws.until-run nul s i n h (λ k l. laws.any-one 0 (get_or s (i + k) 0) ∙ ne_eqb (get_or s (i + k) 0) 0 (λ e. omega (arith, a k l)))

pub until-past : (s : List ℕ) (i : ℕ) → length s ≤ i → until_nul (drop i s) ≡ 0
unfolding until_nul
until-past = laws.until-past nul

-- a place past the end reads as 0
pub until-nul : (s : List ℕ) (i : ℕ) → get_or s i 0 ≡ 0 → until_nul (drop i s) ≡ 0
until-nul s i e = go (ltb i (length s)) refl
  where
    go : (inside : Bool) → ltb i (length s) ≡ inside → until_nul (drop i s) ≡ 0
    go true h = unfold until_nul in laws.until-here nul s i (ltb-true i (length s) h) (laws.any-one 0 (get_or s i 0) ∙ eq-eqb _ 0 e)
    go false h = until-past s i (ltb-false i (length s) h)

-- ---- what a search for it answers

pub some-nul : (s : List ℕ) → is_some (first_nul s) ≡ has_nul s
some-nul s = go (has_nul s)
  where
    go : (b : Bool) → is_some (cond b (Some (until_nul s)) None) ≡ b
    go true = refl
    go false = refl

pub nul-place : (s : List ℕ) (n : ℕ) → Some n ≡ first_nul s → (n ≡ until_nul s) × (until_nul s < length s)
nul-place s n e = go (has_nul s) refl e
  where
    go : (b : Bool) → has_nul s ≡ b → Some n ≡ cond b (Some (until_nul s)) None → (n ≡ until_nul s) × (until_nul s < length s)
    go true h e = (cc, ltb-true _ _ h)
    go false h e = absurd cc

pub no-nul : (s : List ℕ) → None ≡ first_nul s → length s ≤ until_nul s
no-nul s e = ltb-false _ _ (sym (some-nul s) ∙ ap is_some (sym e))
