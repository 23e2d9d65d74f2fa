-- A run of stores: two runs in a row are one, and what lies past the end is dropped.
-- Assumes nothing.
use mathlib.Core.Path.{◌≡◌, refl, sym, ap, ◌∙◌}
use mathlib.Core.List.{List, [], ◌∷◌, ◌++◌}
use Prim.Native.Nat.{ℕ, suc, ◌+◌, ◌-◌, min, ◌≤◌, ◌<◌}
use native.Mathlib.Nat.{add-zero, add-suc, suc-add, min-eq_left, min-eq_right}
use native.Mathlib.Omega.{arith}
use native.Mathlib.Decide.{dec_le}
use native.Mathlib.Numerals.{add-one}
use lib.ListN.{length, get_or, take, drop, set, replicate, length-replicate, take-append-drop}
use borrow.Rule.Slice.PartMut.{put_mid}
use Rattle.std.proofs.lemmas.List.Edits.{sets-eq}
use lib.Seq.{sets, length-sets, length-take-le, set_out, take-length, take-suc, set-set, set_comm, drop-drop}
use Rattle.std.proofs.lemmas.List.{append_assoc, take-replicate}

module _ {A : Type 0} where
  -- a run that starts at or past the end stores nothing
  pub sets-past : (vs l : List A) (i : ℕ) → length l ≤ i → sets l i vs ≡ l
  sets-past [] l i h = refl
  sets-past (a ∷ vs) l i h = rw (set_out l i a h) (sets-past vs l (suc i) (omega arith))

  -- a run of vs and then ws is the run of vs, and the run of ws where it ends
  pub sets-append : (vs ws l : List A) (i : ℕ) → sets l i (vs ++ ws) ≡ sets (sets l i vs) (i + length vs) ws
  sets-append [] ws l i = rw add-zero
  sets-append (a ∷ vs) ws l i = sets-append vs ws (set l i a) (suc i) ∙ rw (suc-add, add-suc)

  -- two runs, the second where the first ends
  pub sets-joined : (vs ws l : List A) (i j : ℕ) → j ≡ i + length vs → sets (sets l i vs) j ws ≡ sets l i (vs ++ ws)
  sets-joined vs ws l i j e = rw e (sym (sets-append vs ws l i))

  -- what comes after the end may be left out of a run
  pub sets-within : (vs ws l : List A) (i : ℕ) → length l ≤ i + length vs → sets l i (vs ++ ws) ≡ sets l i vs
  sets-within vs ws l i h = sets-append vs ws l i ∙ sets-past ws (sets l i vs) (i + length vs) (omega (arith, length-sets l i vs))

  -- one store more, of the next of several values
  pub sets-next : (vs l : List A) (i n : ℕ) (d : A) → n < length vs → set (sets l i (take n vs)) (i + n) (get_or vs n d) ≡ sets l i (take (n + 1) vs)
  sets-next vs l i n d h =
      let size : length (take n vs) ≡ n = length-take-le n vs (omega arith) in
      rw (add-one, take-suc vs n d h, sets-append (take n vs) (get_or vs n d ∷ []) l i, size)

  -- of several values, those that fit are stored
  pub sets-room : (vs l : List A) (i : ℕ) → sets l i (take (min (length vs) (length l - i)) vs) ≡ sets l i vs
  sets-room vs l i = elim (dec_le (length vs) (length l - i)) [ yes h ↦ rw (min-eq_left h, take-length vs) | no h ↦ past (omega arith) ]
    where
      past : length l - i ≤ length vs → sets l i (take (min (length vs) (length l - i)) vs) ≡ sets l i vs
      past h =
          let room : ℕ = length l - i in
          let f : length l ≤ i + length (take room vs) = omega (arith, length-take-le room vs h) in
          rw (min-eq_right h) (sym (sets-within (take room vs) (drop room vs) l i f) ∙ rw take-append-drop)

  -- a part of n places that now holds the values that fit is the run of all
  pub sets-part :
      (vs ws l : List A) (i k : ℕ) →
      i < length l →
      k ≡ min (length vs) (length l - i) →
      ws ≡ take k vs →
      put_mid i k l ws ≡ sets l i vs
  sets-part vs ws l i k h e f =
      let size : length (take k vs) ≡ k = length-take-le k vs (omega arith) in
      let stored : sets l i (take k vs) ≡ sets l i vs = rw e (sets-room vs l i) in
      let part : put_mid i k l (take k vs) ≡ sets l i (take k vs) = rw (sets-eq (take k vs) l i (omega (arith, size)), size, append_assoc, drop-drop) in
      rw f (part ∙ stored)

  -- of a value over and over, those that fit
  pub sets-filled : (a : A) (ws l : List A) (i n k : ℕ) → i < length l → k ≡ min n (length l - i) → ws ≡ replicate k a → put_mid i k l ws ≡ sets l i (replicate n a)
  sets-filled a ws l i n k h e f =
      sets-part (replicate n a) ws l i k h (rw length-replicate e) (rw (take-replicate k n a (omega arith)) f)

  -- of values that all fit
  pub sets-whole : (ws vs l : List A) (i k : ℕ) → ws ≡ vs → k ≡ length vs → i + k ≤ length l → put_mid i k l ws ≡ sets l i vs
  sets-whole ws vs l i k f e h = rw (f, sets-eq vs l i (omega arith), append_assoc, drop-drop, e)

  -- ---- a run that is stored before another in place, and after it in time

  set-sets : (vs l : List A) (i j : ℕ) (a : A) → i < j → set (sets l j vs) i a ≡ sets (set l i a) j vs
  set-sets [] l i j a h = refl
  set-sets (v ∷ vs) l i j a h =
      set-sets vs (set l j v) i (suc j) a (omega arith) ∙ ap (λ (t : List A). sets t (suc j) vs) (set_comm l j i v a (λ e. omega arith))

  sets-apart : (us vs l : List A) (i j : ℕ) → i + length us ≤ j → sets (sets l j vs) i us ≡ sets (sets l i us) j vs
  sets-apart [] vs l i j h = refl
  sets-apart (u ∷ us) vs l i j h =
      ap (λ (t : List A). sets t (suc i) us) (set-sets vs l i j u (omega arith)) ∙ sets-apart us vs (set l i u) (suc i) j (omega arith)

  -- a header that is stored after what follows it
  pub sets-before : (us vs l : List A) (i j : ℕ) → j ≡ i + length us → sets (sets l j vs) i us ≡ sets l i (us ++ vs)
  sets-before us vs l i j e = sets-apart us vs l i j (omega arith) ∙ rw e (sym (sets-append us vs l i))

  -- ---- a run that is stored over another

  pub sets_over : (us vs l : List A) (i : ℕ) → length us ≡ length vs → sets (sets l i us) i vs ≡ sets l i vs
  sets_over [] [] l i e = refl
  sets_over [] (v ∷ vs) l i e = absurd (omega arith)
  sets_over (u ∷ us) [] l i e = absurd (omega arith)
  sets_over (u ∷ us) (v ∷ vs) l i e =
      ap (λ (t : List A). sets t (suc i) vs) (set-sets us (set l i u) i (suc i) v (omega arith) ∙ ap (λ (t : List A). sets t (suc i) us) (set-set l i u v)) ∙
      sets_over us vs (set l i v) (suc i) (omega arith)

  -- over the middle of it
  pub sets-inside : (a b c vs l : List A) (i j : ℕ) → length b ≡ length vs → j ≡ i + length a → sets (sets l i (a ++ (b ++ c))) j vs ≡ sets l i (a ++ (vs ++ c))
  sets-inside a b c vs l i j e f =
      let before : List A = sets l i a in
      let end : ℕ = j + length vs in
      let whole : sets l i (a ++ (b ++ c)) ≡ sets (sets before j b) end c =
      sym (sets-joined a (b ++ c) l i j f) ∙ sym (sets-joined b c before j end (omega arith)) in
      ap (λ (t : List A). sets t j vs) whole ∙
      sets-apart vs c (sets before j b) j end (omega arith) ∙
      ap (λ (t : List A). sets t end c) (sets_over b vs before j e) ∙
      sets-joined vs c before j end refl ∙
      sets-joined a (vs ++ c) l i j f

-- what stores a run, by whether it begins within the output
pub ruleset stores = (sets-past, sets-part, sets-filled, sets-whole)
