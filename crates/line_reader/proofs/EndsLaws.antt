-- The ends of a line's parts tell its first fields, and how many there are.
-- Assumes nothing.
use Prim.Native.Nat.{ℕ, zero, suc, ◌+◌, ◌-◌, ◌≤◌, ◌<◌}
use mathlib.Core.Bool.{Bool, true, false, cond, ◌&&◌, and-true, and-false}
use mathlib.Core.List.{List, [], ◌∷◌}
use mathlib.Core.Path.{◌≡◌, refl, sym, ap, ap₂, ◌∙◌}
use native.Mathlib.Decide.{dec_le}
use native.Mathlib.Nat.{zero-add}
use native.Mathlib.Numerals.{add-one}
use native.Mathlib.Omega.{arith}
use borrow.Author.Tests.{ltb-true, ltb-false, lt-ltb, le-ltb, eq-eqb, ne_eqb}
use lib.Dec.{eqb, ltb, eqb-suc-suc}
use lib.ListN.{length, get_or, take, drop, length-drop, drop_of_length-le}
use lib.Seq.{take-nil}
use Rattle.find.specs.Find.{is_any}
use Rattle.find.proofs.FindLaws.{until-least}
use Rattle.sheet.specs.Fields.{tab}
use Rattle.sheet.specs.Lines.{split}
use Rattle.sheet.proofs.PartsFound.{part_end_lem, first_part}
use Rattle.line_reader.specs.Ends.{part_end, next_end, end_from}
use Rattle.line_reader.proofs.FieldLaws.{field-none, field-first, field_next, count-tab, count-last}

-- a part ends within the line
pub part-most : (s : List ℕ) (at : ℕ) → at ≤ length s → part_end s at ≤ length s
part-most s at h = omega (arith, until-least (is_any (tab ∷ [])) (drop at s), length-drop at s)

pub next-most : (s : List ℕ) (end : ℕ) → end ≤ length s → next_end s end ≤ length s
next-most s end h = go (ltb end (length s)) refl
  where
    go : (more : Bool) → ltb end (length s) ≡ more → cond more (part_end s (end + 1)) end ≤ length s
    go true e = part-most s (end + 1) (omega (arith, ltb-true end (length s) e))
    go false e = h

-- where a part follows, and where none does
pub more-after : (s : List ℕ) (end : ℕ) → end < length s → next_end s end ≡ part_end s (end + 1)
more-after s end h = rw (lt-ltb end (length s) h)

pub none_after : (s : List ℕ) (end : ℕ) → length s ≤ end → next_end s end ≡ end
none_after s end h = rw (le-ltb end (length s) h)

-- the part after one that ends at a place
abbrev pub part_after : List ℕ → ℕ → ℕ → List ℕ
part_after s end next = take (next - (end + 1)) (drop (end + 1) s)

-- ---- from a place on, with the end of the part there

module _ (s : List ℕ) (at : ℕ) (within : at ≤ length s) where
  abbrev end : ℕ
  end = part_end s at

  most : end ≤ length s
  most = part-most s at within

  abbrev fields : List (List ℕ)
  fields = (split tab (drop at s)).rest

  pub first_field : get_or fields 0 [] ≡ part_after s end (next_end s end)
  first_field = go (ltb end (length s)) refl
    where
      go : (more : Bool) → ltb end (length s) ≡ more → get_or fields 0 [] ≡ part_after s end (next_end s end)
      go true e =
          let h = ltb-true end (length s) e in
          field-first s at end refl h ∙ sym (ap (part_after s end) (more-after s end h) ∙ part_end_lem tab s (end + 1) (part_end s (end + 1)) refl)
      go false e =
          let h = ltb-false end (length s) e in
          let none : drop (end + 1) s ≡ [] = drop_of_length-le s (let l : length s ≤ end + 1 = omega arith in l) in
          field-none s at end refl (let q : end ≡ length s = omega (arith, most) in q) 0 ∙ sym (ap (take (next_end s end - (end + 1))) none ∙ take-nil (next_end s end - (end + 1)))

  -- whether there are none
  pub no_fields : eqb (length fields) 0 ≡ eqb end (length s)
  no_fields = go (ltb end (length s)) refl
    where
      go : (more : Bool) → ltb end (length s) ≡ more → eqb (length fields) 0 ≡ eqb end (length s)
      go true e =
          let h = ltb-true end (length s) e in
          let some = count-tab s at end refl h in
          rw (ne_eqb (length fields) 0 (λ q. omega arith), ne_eqb end (length s) (λ q. omega arith))
      go false e =
          let whole : end ≡ length s = omega (arith, ltb-false end (length s) e, most) in
          rw (eq-eqb (length fields) 0 (count-last s at end refl whole), eq-eqb end (length s) whole)

-- what follows a part: one field less
module _ (s : List ℕ) (at : ℕ) (within : at ≤ length s) where
  -- a field at the next index, by the fields after the first
  pub next_field :
      (k : ℕ) →
      get_or (split tab (drop at s)).rest (suc k) [] ≡ cond (ltb (part_end s at) (length s)) (get_or (split tab (drop (part_end s at + 1) s)).rest k []) []
  next_field k = go (ltb (part_end s at) (length s)) refl
    where
      go :
          (more : Bool) →
          ltb (part_end s at) (length s) ≡ more →
          get_or (split tab (drop at s)).rest (suc k) [] ≡ cond more (get_or (split tab (drop (part_end s at + 1) s)).rest k []) []
      go true e =
          field_next s at (part_end s at) refl (ltb-true (part_end s at) (length s) e) (suc k) (omega arith) ∙
          ap (λ (n : ℕ). get_or (split tab (drop (part_end s at + 1) s)).rest n []) (let q : suc k - 1 ≡ k = omega arith in q)
      go false e = field-none s at (part_end s at) refl (let q : part_end s at ≡ length s = omega (arith, ltb-false (part_end s at) (length s) e, part-most s at within) in q) (suc k)

  pub more-fields :
      (k : ℕ) →
      eqb (length (split tab (drop at s)).rest) (suc k) ≡ (ltb (part_end s at) (length s) && eqb (length (split tab (drop (part_end s at + 1) s)).rest) k)
  more-fields k = go (ltb (part_end s at) (length s)) refl
    where
      go :
          (more : Bool) →
          ltb (part_end s at) (length s) ≡ more →
          eqb (length (split tab (drop at s)).rest) (suc k) ≡ (more && eqb (length (split tab (drop (part_end s at + 1) s)).rest) k)
      go true e = ap (λ (n : ℕ). eqb n (suc k)) (count-tab s at (part_end s at) refl (ltb-true (part_end s at) (length s) e)) ∙ eqb-suc-suc (length (split tab (drop (part_end s at + 1) s)).rest) k
      go false e =
          let whole : part_end s at ≡ length s = omega (arith, ltb-false (part_end s at) (length s) e, part-most s at within) in
          let none = count-last s at (part_end s at) refl whole in
          ne_eqb (length (split tab (drop at s)).rest) (suc k) (λ q. omega arith)

-- ---- the parts that follow, one by one

end-most : (s : List ℕ) (at : ℕ) → at ≤ length s → (k : ℕ) → end_from s at k ≤ length s
unfolding end_from
end-most s at h zero = part-most s at h
end-most s at h (suc k) = next-most s (end_from s at k) (end-most s at h k)

-- from the next part on there is one part less
end-shift : (s : List ℕ) (at : ℕ) → part_end s at < length s → (k : ℕ) → end_from s at (suc k) ≡ end_from s (part_end s at + 1) k
unfolding end_from
end-shift s at h zero = more-after s (part_end s at) h
end-shift s at h (suc k) = ap (next_end s) (end-shift s at h k)

-- past the last part every end is the same
pub end-stays : (s : List ℕ) (at j : ℕ) → length s ≤ end_from s at j → (k : ℕ) → j ≤ k → end_from s at k ≡ end_from s at j
unfolding end_from
end-stays s at j h zero l = ap (end_from s at) (let e : 0 ≡ j = omega arith in e)
end-stays s at j h (suc k) l = go (end-stays s at j h k)
  where
    go : (j ≤ k → end_from s at k ≡ end_from s at j) → end_from s at (suc k) ≡ end_from s at j
    go more =
        elim (dec_le j k) [
          | yes q ↦ ap (next_end s) (more q) ∙ none_after s (end_from s at j) h
          | no q ↦ ap (end_from s at) (let e : suc k ≡ j = omega arith in e)
        ]

-- the part after the line's end
nothing_after : (s : List ℕ) (end next : ℕ) → length s ≤ end → part_after s end next ≡ []
nothing_after s end next h =
    let none : drop (end + 1) s ≡ [] = drop_of_length-le s (let l : length s ≤ end + 1 = omega arith in l) in
    ap (take (next - (end + 1))) none ∙ take-nil (next - (end + 1))

-- a field is the part that follows so many others
field-from : (s : List ℕ) (k at : ℕ) → at ≤ length s → get_or (split tab (drop at s)).rest k [] ≡ part_after s (end_from s at k) (end_from s at (suc k))
unfolding end_from
field-from s zero at h = first_field s at h
field-from s (suc k) at h = next_field s at h k ∙ go (field-from s k (part_end s at + 1)) (ltb (part_end s at) (length s)) refl
  where
    go :
        (part_end s at + 1 ≤ length s →
        get_or (split tab (drop (part_end s at + 1) s)).rest k [] ≡ part_after s (end_from s (part_end s at + 1) k) (end_from s (part_end s at + 1) (suc k))) →
        (more : Bool) →
        ltb (part_end s at) (length s) ≡ more →
        cond more (get_or (split tab (drop (part_end s at + 1) s)).rest k []) [] ≡ part_after s (end_from s at (suc k)) (end_from s at (suc (suc k)))
    go rest true e =
        let l = ltb-true (part_end s at) (length s) e in
        rest (omega arith) ∙ ap₂ (part_after s) (sym (end-shift s at l k)) (sym (end-shift s at l (suc k)))
    go rest false e =
        let l = ltb-false (part_end s at) (length s) e in
        let last = end-stays s at 0 l (suc k) (omega arith) in
        sym (nothing_after s (end_from s at (suc k)) (end_from s at (suc (suc k))) (omega (arith, last, l)))

-- there are as many as the line's end allows, and no more
abbrev ends_after : List ℕ → ℕ → ℕ → Bool
ends_after s at zero = eqb (end_from s at 0) (length s)
ends_after s at (suc n) = ltb (end_from s at n) (length s) && eqb (end_from s at (suc n)) (length s)

count-from : (s : List ℕ) (n at : ℕ) → at ≤ length s → eqb (length (split tab (drop at s)).rest) n ≡ ends_after s at n
unfolding end_from
count-from s zero at h = no_fields s at h
count-from s (suc n) at h = more-fields s at h n ∙ go (count-from s n (part_end s at + 1)) (ltb (part_end s at) (length s)) refl
  where
    shifted : (n : ℕ) → part_end s at < length s → ends_after s (part_end s at + 1) n ≡ (ltb (end_from s at n) (length s) && eqb (end_from s at (suc n)) (length s))
    shifted zero l = ap (λ (e : ℕ). eqb e (length s)) (sym (end-shift s at l 0)) ∙ sym (ap (λ (more : Bool). more && eqb (end_from s at 1) (length s)) (lt-ltb (part_end s at) (length s) l))
    shifted (suc n) l = ap₂ (λ (a b : ℕ). ltb a (length s) && eqb b (length s)) (sym (end-shift s at l n)) (sym (end-shift s at l (suc n)))

    go :
        (part_end s at + 1 ≤ length s → eqb (length (split tab (drop (part_end s at + 1) s)).rest) n ≡ ends_after s (part_end s at + 1) n) →
        (more : Bool) →
        ltb (part_end s at) (length s) ≡ more →
        (more && eqb (length (split tab (drop (part_end s at + 1) s)).rest) n) ≡ (ltb (end_from s at n) (length s) && eqb (end_from s at (suc n)) (length s))
    go rest true e = rest (omega (arith, ltb-true (part_end s at) (length s) e)) ∙ shifted n (ltb-true (part_end s at) (length s) e)
    go rest false e =
        let l = ltb-false (part_end s at) (length s) e in
        rw (le-ltb (end_from s at n) (length s) (omega (arith, end-stays s at 0 l n (omega arith), l)))

-- ---- of a whole line

module _ (s : List ℕ) where
  pub line-most : (k : ℕ) → end_from s 0 k ≤ length s
  line-most k = end-most s 0 (omega arith) k

  pub next-is : (k : ℕ) → end_from s 0 (k + 1) ≡ next_end s (end_from s 0 k)
  unfolding end_from
  next-is k = rw add-one

  -- the part after a tab ends where the next one is found
  pub next-part : (k : ℕ) → end_from s 0 k < length s → part_end s (end_from s 0 k + 1) ≡ end_from s 0 (k + 1)
  next-part k h = sym (next-is k ∙ more-after s (end_from s 0 k) h)

  pub word-is : (split tab s).first ≡ take (end_from s 0 0) s
  unfolding end_from
  word-is = first_part tab s ∙ ap (λ (n : ℕ). take n s) (sym (zero-add _))

  pub field-is : (k : ℕ) → get_or (split tab s).rest k [] ≡ part_after s (end_from s 0 k) (end_from s 0 (k + 1))
  field-is k = rw add-one (field-from s k 0 (omega arith))

  -- where a part ends with the line no field follows
  pub field-past : (j k : ℕ) → end_from s 0 j ≡ length s → j ≤ k → get_or (split tab s).rest k [] ≡ []
  field-past j k e h =
      let stays = end-stays s 0 j (omega (arith, e)) k h in
      field-is k ∙ nothing_after s (end_from s 0 k) (end_from s 0 (k + 1)) (omega (arith, stays, e))

  -- whether there are so many fields
  abbrev has : ℕ → Bool
  has n = eqb (length (split tab s).rest) n

  pub has-none : end_from s 0 0 ≡ length s → has 0 ≡ true
  has-none e = count-from s 0 0 (omega arith) ∙ eq-eqb (end_from s 0 0) (length s) e

  pub has-not : (n : ℕ) → (end_from s 0 n ≡ length s → ⊥) → has n ≡ false
  has-not zero e = count-from s 0 0 (omega arith) ∙ ne_eqb (end_from s 0 0) (length s) e
  has-not (suc n) e = count-from s (suc n) 0 (omega arith) ∙ rw (ne_eqb (end_from s 0 (suc n)) (length s) e, and-false)

  pub has-last : (n : ℕ) → (n ≡ 0 → ⊥) → end_from s 0 n ≡ length s → has n ≡ ltb (end_from s 0 (n - 1)) (length s)
  has-last zero h e = absurd (h refl)
  has-last (suc n) h e =
      let q : suc n - 1 ≡ n = omega arith in
      count-from s (suc n) 0 (omega arith) ∙ rw (eq-eqb (end_from s 0 (suc n)) (length s) e, and-true, q)
