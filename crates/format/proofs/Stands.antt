-- Bytes that stand at a place of a payload: the bridge between reading, which goes by places, and writing, which goes by lists. A record of the
-- layout stands at a place exactly where its fields do, one after the other; and a field stands where reading finds its value.
-- Assumes nothing.
use Prim.Native.Nat.{ℕ, ◌+◌, ◌^◌, ◌≤◌, ◌<◌}
use mathlib.Core.Bool.{Bool, true, false}
use mathlib.Core.List.{List, [], ◌∷◌, ◌++◌, append_assoc, append-nil}
use mathlib.Core.Path.{◌≡◌, refl, sym, ap, ◌∙◌}
use native.Mathlib.Nat.{add-zero}
use native.Mathlib.Numerals.{add-one}
use native.Mathlib.Omega.{arith}
use borrow.Author.Tests.{ltb-true, ltb-false}
use lib.Dec.{ltb}
use lib.ListN.{length, get_or, take, drop, replicate, length-append, length-drop, length-take, length-replicate, take-append-drop, get_or-eq_default, drop_of_length-le}
use lib.Seq.{take-append_seam, drop-append_seam, drop-drop, drop-cons, get_or-take, get_or-drop, length-take-le}
use Rattle.wire.specs.Number.{byte_at, little_endian, bytes_of}
use Rattle.wire.specs.Padding.{all_zero}
use Rattle.wire.proofs.NumberLaws.{length-bytes_of, little_endian-below, read_back, write-back}
use Rattle.wire.proofs.PaddingLaws.{all_zero-replicate, zeros-are}
use Rattle.layout.specs.Spans.{part}
use Rattle.format.specs.WellFormed.{Bytes}

-- from the place on the payload is these bytes, and then what follows them
abbrev pub Stands : List ℕ → ℕ → List ℕ → Type 0
Stands p at s = drop at p ≡ s ++ drop (at + length s) p

module _ (p : List ℕ) where
  -- ---- one after the other

  pub stands-none : (at : ℕ) → Stands p at []
  stands-none at = ap (λ (k : ℕ). drop k p) (sym (add-zero at))

  module _ (at : ℕ) (s t : List ℕ) where
    ends : at + length (s ++ t) ≡ at + length s + length t
    ends = omega (arith, length-append s t)

    -- what follows the first bytes
    rest : Stands p at (s ++ t) → drop (at + length s) p ≡ t ++ drop (at + length (s ++ t)) p
    rest h =
        sym (drop-drop (length s) at p) ∙
        ap (λ (l : List ℕ). drop (length s) l) (h ∙ append_assoc s t (drop (at + length (s ++ t)) p)) ∙
        drop-append_seam s (t ++ drop (at + length (s ++ t)) p)

    pub stands-first : Stands p at (s ++ t) → Stands p at s
    stands-first h = h ∙ append_assoc s t (drop (at + length (s ++ t)) p) ∙ ap (λ (l : List ℕ). s ++ l) (sym (rest h))

    module _ (next : ℕ) (e : next ≡ at + length s) where
      pub stands-next : Stands p at (s ++ t) → Stands p next t
      stands-next h = rw (e, ← ends) (rest h)

      pub stands-join : Stands p at s → Stands p next t → Stands p at (s ++ t)
      stands-join a b =
          let b' : drop (at + length s) p ≡ t ++ drop (at + length (s ++ t)) p = rw (ends, ← e) b in
          a ∙ ap (λ (l : List ℕ). s ++ l) b' ∙ sym (append_assoc s t (drop (at + length (s ++ t)) p))

  -- where bytes stand there is room for them
  pub stands-within : (at : ℕ) (s : List ℕ) → at ≤ length p → Stands p at s → at + length s ≤ length p
  stands-within at s l h =
      let sum : length (drop at p) ≡ length s + length (drop (at + length s) p) = ap length h ∙ length-append s (drop (at + length s) p) in
      omega (arith, length-drop at p, length-drop (at + length s) p)

  pub stands-all : Stands p 0 p
  stands-all = sym (ap (λ (l : List ℕ). p ++ l) (drop_of_length-le p {i = 0 + length p} (omega arith)) ∙ append-nil p)

  -- bytes that stand at the start and are as long as the payload are all of it
  pub stands-whole : (s : List ℕ) → length s ≡ length p → Stands p 0 s → s ≡ p
  stands-whole s e h =
      let none : drop (0 + length s) p ≡ [] = drop_of_length-le p {i = 0 + length s} (omega arith) in
      sym (h ∙ ap (λ (l : List ℕ). s ++ l) none ∙ append-nil s)

  -- ---- texts

  pub length_part : (at n : ℕ) → at + n ≤ length p → length (part p at n) ≡ n
  length_part at n h = length-take-le n (drop at p) (omega (arith, length-drop at p))

  pub part-stands : (at n : ℕ) → at + n ≤ length p → Stands p at (part p at n)
  part-stands at n h = sym (take-append-drop n (drop at p)) ∙ rw (length_part at n h, drop-drop n at p)

  pub stands-part : (at : ℕ) (s : List ℕ) → Stands p at s → part p at (length s) ≡ s
  stands-part at s h = ap (λ (l : List ℕ). take (length s) l) h ∙ take-append_seam s (drop (at + length s) p)

  pub part_bytes : Bytes p → (at n : ℕ) → Bytes (part p at n)
  part_bytes bytes at n k = go (ltb k n) refl
    where
      go : (b : Bool) → ltb k n ≡ b → get_or (part p at n) k 0 < 256
      go true e = rw (get_or-take n (drop at p) k 0 (ltb-true k n e), get_or-drop) (bytes (at + k))
      go false e =
          let past : length (part p at n) ≤ k = omega (arith, length-take n (drop at p), ltb-false k n e) in
          rw (get_or-eq_default (part p at n) 0 past) (omega arith)

  -- ---- a NUL and zeros

  pub nul-stands : (at : ℕ) → at < length p → byte_at p at ≡ 0 → Stands p at (0 ∷ [])
  nul-stands at h e = drop-cons p at 0 h ∙ rw (e, add-one)

  pub stands-nul : (at : ℕ) → Stands p at (0 ∷ []) → byte_at p at ≡ 0
  stands-nul at h = ap (λ (k : ℕ). get_or p k 0) (sym (add-zero at)) ∙ sym (get_or-drop at p 0 0) ∙ ap (λ (l : List ℕ). get_or l 0 0) h

  pub zeros-stand : (at n : ℕ) → at + n ≤ length p → all_zero (part p at n) ≡ true → Stands p at (replicate n 0)
  zeros-stand at n h e =
      let all : part p at n ≡ replicate n 0 = zeros-are (part p at n) e ∙ ap (λ (k : ℕ). replicate k 0) (length_part at n h) in
      rw (← all) (part-stands at n h)

  pub stands-zeros : (at n : ℕ) → Stands p at (replicate n 0) → all_zero (part p at n) ≡ true
  stands-zeros at n h =
      let all : part p at n ≡ replicate n 0 = ap (λ (k : ℕ). part p at k) (sym (length-replicate n 0)) ∙ stands-part at (replicate n 0) h in
      rw all (all_zero-replicate n)

  -- ---- numbers, and what follows them

  -- a number on the wire fits its width
  pub number-below : Bytes p → (w at : ℕ) → little_endian w (drop at p) < 256 ^ w
  number-below bytes w at = little_endian-below w (drop at p) (λ k. rw get_or-drop (bytes (at + k)))

  pub spelt : Bytes p → (w at : ℕ) → at + w ≤ length p → Stands p at (bytes_of w (little_endian w (drop at p)))
  spelt bytes w at h =
      rw (write-back w (drop at p) (λ k. rw get_or-drop (bytes (at + k))) (omega (arith, length-drop at p))) (part-stands at w h)

  pub spells : (w at n : ℕ) → n < 256 ^ w → Stands p at (bytes_of w n) → little_endian w (drop at p) ≡ n
  spells w at n h s = ap (little_endian w) s ∙ read_back w n (drop (at + length (bytes_of w n)) p) h

  module _ (w at next n : ℕ) (t : List ℕ) (e : next ≡ at + w) where
    there : next ≡ at + length (bytes_of w n)
    there = e ∙ ap (λ (k : ℕ). at + k) (sym (length-bytes_of w n))

    pub number-stands : Bytes p → next ≤ length p → little_endian w (drop at p) ≡ n → Stands p next t → Stands p at (bytes_of w n ++ t)
    number-stands bytes h f after = stands-join at (bytes_of w n) t next there (rw (← f) (spelt bytes w at (omega arith))) after

    pub stands_after : Stands p at (bytes_of w n ++ t) → Stands p next t
    stands_after = stands-next at (bytes_of w n) t next there

    pub stands-number : n < 256 ^ w → Stands p at (bytes_of w n ++ t) → (little_endian w (drop at p) ≡ n) × Stands p next t
    stands-number h s = (spells w at n h (stands-first at (bytes_of w n) t s), stands_after s)
