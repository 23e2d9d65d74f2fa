-- What code that goes by the local rule has to know: when a byte is right, when no character is open, and that ASCII is right after ASCII.
-- Assumes nothing.
use Rattle.std.specs.Prelude.{◌≡◌, ℕ, zero, suc, ◌+◌, ◌-◌, ◌<◌, ◌≤◌, Bool, true, false, cond, not, ◌&&◌, ◌||◌, eqb, ltb, leb, List, length, get_or}
use mathlib.Core.Path.{refl, sym, ◌∙◌, ap}
use mathlib.Core.Bool.{beq, true≢false}
use native.Mathlib.Decide.{ℕ_discrete, dec_lt}
use native.Mathlib.Omega.{arith}
use Rattle.std.specs.List.{between}
use Rattle.std.proofs.lemmas.List.Edits.{length-between, get_or-between}
use borrow.Author.Tests.{leb-true, ltb-true, ltb-false, le-leb}
use Rattle.utf8.specs.Rfc3629.{to, tail, within}
use Rattle.validate.specs.Rule.{due, follows, leads, right, padded, right_at, open_at}
use Rattle.validate.proofs.RuleGrammar.{due-none, within_in, within-bounds, follows-E0, follows-ED, follows-F0, follows-F4, follows-tail, leads-ascii, leads-more}

follows-high : (p1 : ℕ) → (follows p1).high ≤ 0xBF
unfolding follows
follows-high p1 = go (eqb p1 0xE0) (eqb p1 0xED) (eqb p1 0xF0) (eqb p1 0xF4)
  where
    go : (a b c d : Bool) → (cond a (to 0xA0 0xBF) (cond b (to 0x80 0x9F) (cond c (to 0x90 0xBF) (cond d (to 0x80 0x8F) tail)))).high ≤ 0xBF
    go true b c d = omega arith
    go false true c d = omega arith
    go false false true d = omega arith
    go false false false true = omega arith
    go false false false false = omega arith

-- a byte that continues a character is right if it is one that may follow the byte before it
module _ (p3 p2 p1 b : ℕ) where
  pub right-due : due p3 p2 p1 ≡ true → 0x80 ≤ b → b < 0xC0 → (p1 ≡ 0xE0 → 0xA0 ≤ b) → (p1 ≡ 0xED → b < 0xA0) → (p1 ≡ 0xF0 → 0x90 ≤ b) → (p1 ≡ 0xF4 → b < 0x90) → right p3 p2 p1 b ≡ true
  unfolding right
  right-due d l h e0 ed f0 f4 =
      rw d
      (elim (ℕ_discrete p1 0xE0) [
        | yes q ↦ rw (follows-E0 p1 q) (within_in (to 0xA0 0xBF) b (e0 q) (omega arith))
        | no n0 ↦
            elim (ℕ_discrete p1 0xED) [
              | yes q ↦ let m = ed q in rw (follows-ED p1 q) (within_in (to 0x80 0x9F) b l (omega arith))
              | no n1 ↦
                  elim (ℕ_discrete p1 0xF0) [
                    | yes q ↦ rw (follows-F0 p1 q) (within_in (to 0x90 0xBF) b (f0 q) (omega arith))
                    | no n2 ↦
                        elim (ℕ_discrete p1 0xF4) [
                          | yes q ↦ let m = f4 q in rw (follows-F4 p1 q) (within_in (to 0x80 0x8F) b l (omega arith))
                          | no n3 ↦ rw (follows-tail p1 n0 n1 n2 n3) (within_in tail b l (omega arith))
                        ]
                  ]
            ]
      ])

  pub right-led : due p3 p2 p1 ≡ false → leads b ≡ true → right p3 p2 p1 b ≡ true
  unfolding right
  right-led d l = rw (d, l)

  -- before a byte that begins a longer character none is open
  pub begins-shut : right p3 p2 p1 b ≡ true → 0xC2 ≤ b → due p3 p2 p1 ≡ false
  unfolding right
  begins-shut e l = go (due p3 p2 p1) e
    where
      go : (t : Bool) → cond t (within (follows p1) b) (leads b) ≡ true → t ≡ false
      go false e = refl
      go true e = let (m, n) = within-bounds (follows p1) b e in absurd (omega (arith, follows-high p1))

-- ---- the rule as flat comparisons

pub and-false : (x y : Bool) → (x && y) ≡ false → x ≡ true → y ≡ false
and-false true y e q = e
and-false false y e q = absurd (true≢false (sym q))

pub not-ne : (x y : Bool) → not (beq x y) ≡ false → x ≡ y
not-ne true true e = refl
not-ne false false e = refl
not-ne true false e = absurd (true≢false e)
not-ne false true e = absurd (true≢false e)

module _ (p3 p2 p1 b : ℕ) where
  abbrev is_tail : Bool
  is_tail = leb 0x80 b && ltb b 0xC0

  tail-bounds : is_tail ≡ true → (0x80 ≤ b) × (b < 0xC0)
  tail-bounds = go (leb 0x80 b) (ltb b 0xC0) refl refl
    where
      go : (x y : Bool) → leb 0x80 b ≡ x → ltb b 0xC0 ≡ y → (x && y) ≡ true → (0x80 ≤ b) × (b < 0xC0)
      go true true p q e = (leb-true _ _ p, ltb-true _ _ q)
      go true false p q e = absurd (true≢false (sym e))
      go false y p q e = absurd (true≢false (sym e))

  -- a byte that is no tail, and that the grammar has somewhere, leads
  leads-other : is_tail ≡ false → (0xC0 ≤ b → 0xC2 ≤ b) → b < 0xF5 → leads b ≡ true
  leads-other t n u =
      elim (dec_lt b 0x80) [
        | yes h ↦ leads-ascii b h
        | no h ↦ leads-more b (n (ltb-false b 0xC0 (and-false (leb 0x80 b) (ltb b 0xC0) t (le-leb 0x80 b (omega arith))))) (omega arith)
      ]

  -- a byte is right if it is a tail exactly where one is due, and none of the other comparisons tells against it
  pub flat-right :
      (leb 0xC2 p1 || leb 0xE0 p2 || leb 0xF0 p3) ≡ is_tail → (p1 ≡ 0xE0 → 0xA0 ≤ b) → (p1 ≡ 0xED → b < 0xA0) → (p1 ≡ 0xF0 → 0x90 ≤ b) → (p1 ≡ 0xF4 → b < 0x90)
      → (0xC0 ≤ b → 0xC2 ≤ b) → b < 0xF5 → right p3 p2 p1 b ≡ true
  unfolding due
  flat-right same e0 ed f0 f4 never top = go is_tail refl same
    where
      go : (t : Bool) → is_tail ≡ t → due p3 p2 p1 ≡ t → right p3 p2 p1 b ≡ true
      go true t d = let (l, h) = tail-bounds t in right-due p3 p2 p1 b d l h e0 ed f0 f4
      go false t d = right-led p3 p2 p1 b d (leads-other t never top)

module _ (s : List ℕ) where
  -- from the fourth place on the three bytes before a place are the text's own
  pub right-at : (i : ℕ) → 3 ≤ i → right_at s i ≡ right (get_or s (i - 3) 0) (get_or s (i - 2) 0) (get_or s (i - 1) 0) (get_or s i 0)
  unfolding right_at
  right-at i h =
      let x : i ≡ suc (suc (suc (i - 3))) = omega arith in
      let y : suc i ≡ suc (suc (suc (i - 2))) = omega arith in
      let z : suc (suc i) ≡ suc (suc (suc (i - 1))) = omega arith in
      ap (λ (n : ℕ). right (get_or (padded s) n 0) (get_or (padded s) (suc i) 0) (get_or (padded s) (suc (suc i)) 0) (get_or s i 0)) x ∙
      ap (λ (n : ℕ). right (get_or s (i - 3) 0) (get_or (padded s) n 0) (get_or (padded s) (suc (suc i)) 0) (get_or s i 0)) y ∙
      ap (λ (n : ℕ). right (get_or s (i - 3) 0) (get_or s (i - 2) 0) (get_or (padded s) n 0) (get_or s i 0)) z

  -- a block that is right after the three bytes before it, by places of the text
  pub block-right :
      (i n e : ℕ) → 3 ≤ i → e ≡ i + n → e ≤ length s →
      (let b = between (i - 3) e s in (k : ℕ) → k + 3 < length b → right (get_or b k 0) (get_or b (k + 1) 0) (get_or b (k + 2) 0) (get_or b (k + 3) 0) ≡ true) →
      (j : ℕ) → j < n → right_at s (i + j) ≡ true
  block-right i n e h q f all j l =
      let b = between (i - 3) e s in
      let place : (m p : ℕ) → m < n + 3 → i - 3 + m ≡ p → get_or b m 0 ≡ get_or s p 0 =
      λ m p k r. get_or-between s (i - 3) e m 0 (omega arith) ∙ ap (λ (p : ℕ). get_or s p 0) r in
      let p3 = place j (i + j - 3) (omega arith) (omega arith) in
      let p2 = place (j + 1) (i + j - 2) (omega arith) (omega arith) in
      let p1 = place (j + 2) (i + j - 1) (omega arith) (omega arith) in
      let p0 = place (j + 3) (i + j) (omega arith) (omega arith) in
      let here = all j (omega (arith, length-between s (i - 3) e f)) in
      right-at (i + j) (omega arith) ∙ cc

  pub open-at : (i : ℕ) → 3 ≤ i → open_at s i ≡ due (get_or s (i - 3) 0) (get_or s (i - 2) 0) (get_or s (i - 1) 0)
  unfolding open_at
  open-at i h =
      let x : i ≡ suc (suc (suc (i - 3))) = omega arith in
      let y : suc i ≡ suc (suc (suc (i - 2))) = omega arith in
      let z : suc (suc i) ≡ suc (suc (suc (i - 1))) = omega arith in
      ap (λ (n : ℕ). due (get_or (padded s) n 0) (get_or (padded s) (suc i) 0) (get_or (padded s) (suc (suc i)) 0)) x ∙
      ap (λ (n : ℕ). due (get_or s (i - 3) 0) (get_or (padded s) n 0) (get_or (padded s) (suc (suc i)) 0)) y ∙
      ap (λ (n : ℕ). due (get_or s (i - 3) 0) (get_or s (i - 2) 0) (get_or (padded s) n 0)) z

  pub shut_at : (i : ℕ) → right_at s i ≡ true → 0xC2 ≤ get_or s i 0 → open_at s i ≡ false
  unfolding right_at open_at
  shut_at i e l = begins-shut _ _ _ _ e l

  -- ASCII up to a place is right up to it
  module _ (at : ℕ) (a : (k : ℕ) → k < at → get_or s k 0 < 0x80) where
    low : (i : ℕ) → i < 3 + at → get_or (padded s) i 0 < 0x80
    low zero h = omega arith
    low (suc zero) h = omega arith
    low (suc (suc zero)) h = omega arith
    low (suc (suc (suc i))) h = a i (omega arith)

    pub ascii-right : (i : ℕ) → i < at → right_at s i ≡ true
    unfolding right_at
    ascii-right i h =
        let p3 = low i (omega arith) in
        let p2 = low (suc i) (omega arith) in
        let p1 = low (suc (suc i)) (omega arith) in
        right-led _ _ _ _ (due-none _ _ _ (omega arith) (omega arith) (omega arith)) (leads-ascii _ (a i h))
