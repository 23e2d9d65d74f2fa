-- The bytes of a character after its first: a byte of a range, and then bytes of UTF8-tail.
-- Assumes nothing.
use Rattle.std.proofs.Common.{◌≡◌, ℕ, zero, suc, ◌+◌, ◌≤◌, ◌<◌, Bool, true, false, cond, ◌&&◌, List, [], ◌∷◌, Some, None, length, take, replicate, refl, ap, arith}
use Rattle.std.specs.List.{list_all}
use Rattle.std.proofs.lemmas.List.{length-replicate}
use Rattle.utf8.specs.Rfc3629.{Range, tail, within, begins}
use Rattle.utf8.specs.Classes.{length_after, nonzero}
use Rattle.utf8.proofs.Alternatives.{after-hit, after-miss}

short : (n : ℕ) (s : List ℕ) → length s < n → begins (replicate n tail) s ≡ false
unfolding begins
short zero s h = absurd (omega arith)
short (suc n) [] h = refl
short (suc n) (b ∷ s) h = go (within tail b) (short n s (omega arith))
  where
    go : (t : Bool) → begins (replicate n tail) s ≡ false → (t && begins (replicate n tail) s) ≡ false
    go true e = e
    go false e = refl

enough : (n : ℕ) (s : List ℕ) → n ≤ length s → begins (replicate n tail) s ≡ list_all (within tail) (take n s)
unfolding begins
enough zero s h = refl
enough (suc n) [] h = absurd (omega arith)
enough (suc n) (b ∷ s) h = ap (λ (t : Bool). within tail b && t) (enough n s (omega arith))

nonzero-is : (m n : ℕ) → 0 < m → m ≡ n → Some m ≡ nonzero n
nonzero-is zero n h e = absurd (omega arith)
nonzero-is (suc m) n h e = ap nonzero e

module _ (r : Range) (n : ℕ) where
  hit : (s : List ℕ) → begins (r ∷ replicate n tail) s ≡ true → Some (2 + n) ≡ nonzero (length_after (r ∷ replicate n tail) s)
  hit s e = nonzero-is _ _ (omega arith) (omega (arith, after-hit _ s e, length-replicate n tail))

  miss : (s : List ℕ) → begins (r ∷ replicate n tail) s ≡ false → None ≡ nonzero (length_after (r ∷ replicate n tail) s)
  miss s e = ap nonzero (after-miss _ s e)

  pub none-empty : (s : List ℕ) → length s ≡ 0 → None ≡ nonzero (length_after (r ∷ replicate n tail) s)
  unfolding begins
  none-empty [] h = miss [] refl
  none-empty (b ∷ s) h = absurd (omega arith)

  pub none_short : (all : List ℕ) (b : ℕ) (s : List ℕ) → all ≡ b ∷ s → length s < n → None ≡ nonzero (length_after (r ∷ replicate n tail) all)
  unfolding begins
  none_short all b s e h = rw e (miss (b ∷ s) (rw (short n s h) (go (within r b))))
    where
      go : (t : Bool) → (t && false) ≡ false
      go true = refl
      go false = refl

  pub by_bytes :
      (all : List ℕ) (b : ℕ) (s : List ℕ) (x y : Bool) →
      all ≡ b ∷ s →
      n ≤ length s →
      x ≡ within r b →
      y ≡ list_all (within tail) (take n s) →
      cond (x && y) (Some (2 + n)) None ≡ nonzero (length_after (r ∷ replicate n tail) all)
  unfolding begins
  by_bytes all b s x y e h p q = rw e (go x y (rw (enough n s h, ← p, ← q)))
    where
      go : (x y : Bool) → begins (r ∷ replicate n tail) (b ∷ s) ≡ (x && y) → cond (x && y) (Some (2 + n)) None ≡ nonzero (length_after (r ∷ replicate n tail) (b ∷ s))
      go true true e = hit (b ∷ s) e
      go true false e = miss (b ∷ s) e
      go false y e = miss (b ∷ s) e
