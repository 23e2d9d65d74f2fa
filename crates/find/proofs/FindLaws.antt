-- The laws of the first byte that passes a test: where it stands, what stands before it, and a step over bytes that do not pass.
-- Assumes nothing.
use Prim.Native.Nat.{ℕ, zero, suc, ◌+◌, ◌≤◌, ◌<◌}
use mathlib.Core.Bool.{Bool, true, false, ◌||◌, cond, not}
use mathlib.Core.List.{List, [], ◌∷◌, ◌++◌}
use mathlib.Core.Path.{◌≡◌, refl, sym, ap, ap₂, ◌∙◌}
use native.Mathlib.Nat.{add-zero}
use native.Mathlib.Numerals.{add-one}
use native.Mathlib.Omega.{arith}
use lib.Dec.{eqb, ltb}
use lib.ListN.{length, get_or, take, drop, length-take, drop_of_length-le}
use lib.Seq.{drop-cons}
use lib.Seq.{get_or-take}
use Rattle.std.specs.List.{All, list_any, position_or_len}
use Rattle.std.proofs.lemmas.List.Folds.{list_any_at}
use Rattle.std.specs.Option.{unwrap_or}
use Rattle.std.proofs.Common.{Option, Some, None}
use borrow.Author.Tests.{ltb-true, ltb-false, eqb-true, eq-eqb}
use Rattle.find.specs.Find.{until, is_any}

-- to be one of a single byte is to be that byte
pub any-one : (a b : ℕ) → is_any (a ∷ []) b ≡ eqb b a
any-one a b = go (eqb b a)
  where
    go : (is : Bool) → (is || false) ≡ is
    go true = refl
    go false = refl

-- the test as `contains` makes it
same-either-way : (a b : ℕ) → eqb a b ≡ eqb b a
same-either-way a b = go (eqb a b) refl (eqb b a) refl
  where
    go : (x : Bool) → eqb a b ≡ x → (y : Bool) → eqb b a ≡ y → eqb a b ≡ eqb b a
    go true p true q = p ∙ sym q
    go true p false q = p ∙ sym (eq-eqb b a (sym (eqb-true a b p)))
    go false p true q = eq-eqb a b (sym (eqb-true b a q)) ∙ sym q
    go false p false q = p ∙ sym q

pub any-contained : (sought : List ℕ) (b : ℕ) → list_any (λ a. eqb a b) sought ≡ is_any sought b
any-contained [] b = refl
any-contained (a ∷ sought) b = ap₂ (λ (x y : Bool). x || y) (same-either-way a b) (any-contained sought b)

-- bytes in which none is found of some are none of them
pub none-found : (sought block : List ℕ) → list_any (λ a. list_any (λ b. eqb b a) block) sought ≡ false → All (λ b. is_any sought b ≡ false) block
none-found [] block e k d h = refl
none-found (a ∷ sought) block e k d h = go (list_any (λ b. eqb b a) block) refl (eqb b a) refl e (λ f. none-found sought block f k d h)
  where
    b : ℕ
    b = get_or block k d

    go :
        (has : Bool) →
        list_any (λ b. eqb b a) block ≡ has →
        (is : Bool) →
        eqb b a ≡ is →
        (has || list_any (λ a. list_any (λ b. eqb b a) block) sought) ≡ false →
        (list_any (λ a. list_any (λ b. eqb b a) block) sought ≡ false → is_any sought b ≡ false) →
        (is || is_any sought b) ≡ false
    go true q is p f more = absurd cc
    go false q true p f more = let has : false ≡ true = sym q ∙ list_any_at (λ b. eqb b a) block k d h p in absurd cc
    go false q false p f more = more f

module _ (passes : ℕ → Bool) where
  -- what is found by what the first byte does
  abbrev found : Bool → List ℕ → ℕ
  found here s = elim here as (λ _. ℕ) [ true ↦ 0 | false ↦ suc (until passes s) ]

  pub until-found : (b : ℕ) (s : List ℕ) → passes b ≡ true → until passes (b ∷ s) ≡ 0
  unfolding until
  until-found b s e = ap (λ (here : Bool). found here s) e

  pub until-more : (b : ℕ) (s : List ℕ) → passes b ≡ false → until passes (b ∷ s) ≡ suc (until passes s)
  unfolding until
  until-more b s e = ap (λ (here : Bool). found here s) e

  pub until-least : (s : List ℕ) → until passes s ≤ length s
  until-least [] = unfold until in omega arith
  until-least (b ∷ s) = go (passes b) refl (until-least s)
    where
      go : (here : Bool) → passes b ≡ here → until passes s ≤ length s → until passes (b ∷ s) ≤ length (b ∷ s)
      go true e h = omega (arith, until-found b s e)
      go false e h = omega (arith, until-more b s e)

  position-is : (s : List ℕ) → position_or_len passes s ≡ until passes s
  unfolding until
  position-is [] = refl
  position-is (b ∷ s) = go (passes b) (position-is s)
    where
      go : (here : Bool) → position_or_len passes s ≡ until passes s → cond (not here) (1 + position_or_len passes s) 0 ≡ found here s
      go true e = refl
      go false e = omega arith

  -- what `position` finds, or the end
  pub position-until :
      (s : List ℕ) (at : Option ℕ) (n : ℕ) →
      at ≡ cond (ltb (position_or_len passes s) (length s)) (Some (position_or_len passes s)) None →
      n ≡ unwrap_or at (length s) →
      n ≡ until passes s
  position-until s at n e h = go (ltb (position_or_len passes s) (length s)) refl
    where
      go : (t : Bool) → ltb (position_or_len passes s) (length s) ≡ t → n ≡ until passes s
      go true t = h ∙ ap (λ (o : Option ℕ). unwrap_or o (length s)) (rw t at e) ∙ position-is s
      go false t =
          h ∙ ap (λ (o : Option ℕ). unwrap_or o (length s)) (rw t at e) ∙
          omega (arith, ltb-false _ _ t, position-is s, until-least s)

  pub until-at : (s : List ℕ) → until passes s < length s → passes (get_or s (until passes s) 0) ≡ true
  until-at [] h = absurd (omega arith)
  until-at (b ∷ s) h = go (passes b) refl (until-at s)
    where
      go :
          (here : Bool) →
          passes b ≡ here →
          (until passes s < length s → passes (get_or s (until passes s) 0) ≡ true) →
          passes (get_or (b ∷ s) (until passes (b ∷ s)) 0) ≡ true
      go true e more = rw (until-found b s e) e
      go false e more = rw (until-more b s e) (more (omega (arith, until-more b s e)))

  pub until-before : (s : List ℕ) (k : ℕ) → k < until passes s → passes (get_or s k 0) ≡ false
  until-before [] k h = absurd (unfold until in omega arith)
  until-before (b ∷ s) k h = go (passes b) refl k h (until-before s)
    where
      go :
          (here : Bool) →
          passes b ≡ here →
          (k : ℕ) →
          k < until passes (b ∷ s) →
          ((k : ℕ) → k < until passes s → passes (get_or s k 0) ≡ false) →
          passes (get_or (b ∷ s) k 0) ≡ false
      go true e k h more = absurd (omega (arith, until-found b s e))
      go false e zero h more = e
      go false e (suc k) h more = more k (omega (arith, until-more b s e))

  -- ---- of a prefix

  -- one that passes inside a prefix is the first of the whole
  pub until-prefix : (s : List ℕ) (n : ℕ) → until passes s < n → until passes (take n s) ≡ until passes s
  until-prefix s zero h = absurd (omega arith)
  until-prefix [] (suc n) h = refl
  until-prefix (b ∷ s) (suc n) h = go (passes b) refl (until-prefix s n)
    where
      go :
          (here : Bool) →
          passes b ≡ here →
          (until passes s < n → until passes (take n s) ≡ until passes s) →
          until passes (b ∷ take n s) ≡ until passes (b ∷ s)
      go true e more = until-found b (take n s) e ∙ sym (until-found b s e)
      go false e more = until-more b (take n s) e ∙ ap suc (more (omega (arith, until-more b s e))) ∙ sym (until-more b s e)

  -- the first of a prefix that has one is the first of the whole
  pub until-in-prefix : (s : List ℕ) (n : ℕ) → until passes (take n s) < length (take n s) → until passes (take n s) ≡ until passes s
  until-in-prefix s n h = go (ltb (until passes s) n) refl
    where
      k : ℕ
      k = until passes (take n s)

      go : (inside : Bool) → ltb (until passes s) n ≡ inside → k ≡ until passes s
      go true e = until-prefix s n (ltb-true _ _ e)
      go false e =
          let least : k < n = omega (arith, length-take n s) in
          let none = until-before s k (omega (arith, ltb-false (until passes s) n e)) in
          let some = ap passes (sym (get_or-take n s k 0 least)) ∙ until-at (take n s) h in
          absurd cc

  -- a prefix that ends at the first or before has none
  pub until-take : (s : List ℕ) (n : ℕ) → n ≤ until passes s → until passes (take n s) ≡ length (take n s)
  until-take s zero h = unfold until in refl
  until-take [] (suc n) h = unfold until in refl
  until-take (b ∷ s) (suc n) h = go (passes b) refl (until-take s n)
    where
      go :
          (here : Bool) →
          passes b ≡ here →
          (n ≤ until passes s → until passes (take n s) ≡ length (take n s)) →
          until passes (b ∷ take n s) ≡ suc (length (take n s))
      go true e more = absurd (omega (arith, until-found b s e))
      go false e more = until-more b (take n s) e ∙ ap suc (more (omega (arith, until-more b s e)))

  -- bytes without one end at the one that follows them
  pub until-closed : (s after : List ℕ) (last : ℕ) → passes last ≡ true → length s ≤ until passes s → until passes (s ++ last ∷ after) ≡ length s
  until-closed [] after last e h = until-found last after e
  until-closed (b ∷ s) after last e h = go (passes b) refl (until-closed s after last e)
    where
      go :
          (here : Bool) →
          passes b ≡ here →
          (length s ≤ until passes s → until passes (s ++ last ∷ after) ≡ length s) →
          until passes (b ∷ s ++ last ∷ after) ≡ suc (length s)
      go true e more = absurd (omega (arith, until-found b s e))
      go false e more = until-more b (s ++ last ∷ after) e ∙ ap suc (more (omega (arith, until-more b s e)))

  -- ---- from a place on

  pub until-here : (s : List ℕ) (i : ℕ) → i < length s → passes (get_or s i 0) ≡ true → until passes (drop i s) ≡ 0
  until-here s i h e = rw (drop-cons s i 0 h) (until-found (get_or s i 0) (drop (suc i) s) e)

  pub until-step : (s : List ℕ) (i : ℕ) → i < length s → passes (get_or s i 0) ≡ false → until passes (drop i s) ≡ suc (until passes (drop (i + 1) s))
  until-step s i h e = rw (add-one, drop-cons s i 0 h) (until-more (get_or s i 0) (drop (suc i) s) e)

  pub until-past : (s : List ℕ) (i : ℕ) → length s ≤ i → until passes (drop i s) ≡ 0
  unfolding until
  until-past s i h = rw (drop_of_length-le s h)

  -- a step over a run in which none passes
  pub until-run :
      (s : List ℕ) (i n : ℕ) →
      i + n ≤ length s →
      ((k : ℕ) → k < n → passes (get_or s (i + k) 0) ≡ false) →
      i + n + until passes (drop (i + n) s) ≡ i + until passes (drop i s)
  until-run s i zero h a = ap (λ (m : ℕ). m + until passes (drop m s)) (add-zero i)
  until-run s i (suc n) h a =
      let last = until-step s (i + n) (omega arith) (a n (omega arith)) in
      ap (λ (m : ℕ). m + until passes (drop m s)) (let e : i + suc n ≡ i + n + 1 = omega arith in e) ∙
      omega arith ∙
      until-run s i n (omega arith) (λ k l. a k (omega arith))

  -- a step over a block in which none passes
  pub until-block :
      (s block after : List ℕ) →
      block ≡ take 16 s →
      after ≡ drop 16 s →
      16 ≤ length s →
      All (λ b. passes b ≡ false) block →
      until passes s ≡ 16 + until passes after
  until-block s block after first rest h none =
      let each : (k : ℕ) → k < 16 → passes (get_or s (0 + k) 0) ≡ false =
      λ k l.
      let here : 0 + k ≡ k = omega arith in
      rw (here, ← get_or-take 16 s k 0 l, ← first) (none k 0 (rw first (omega (arith, length-take 16 s)))) in
      rw rest (omega (arith, until-run s 0 16 h each))
