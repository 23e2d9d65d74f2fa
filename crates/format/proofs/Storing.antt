-- A loop that stores bytes piece by piece, whichever job it is: what is left to store after a turn.
-- Assumes nothing.
use Prim.Native.Nat.{ℕ, ◌+◌, ◌≤◌}
use mathlib.Core.List.{List, [], ◌∷◌, ◌++◌, flat_map}
use mathlib.Core.Path.{◌≡◌, sym, ap, ◌∙◌}
use native.Mathlib.Nat.{add-zero}
use native.Mathlib.Omega.{arith}
use lib.ListN.{length, length-append}
use lib.Seq.{sets}
use Rattle.wire.proofs.Sets.{sets-joined}

-- ---- bytes that are stored piece by piece

-- `bytes` are left to store in `output`, from `to` on: they end where `all` end that are stored in `before` from `start` on, and give the same output
pub record Left (before : List ℕ) (start : ℕ) (all output : List ℕ) (to : ℕ) (bytes : List ℕ) : Type 0 where
  pub ends : to + length bytes ≡ start + length all
  pub gives : sets output to bytes ≡ sets before start all

module _ {before : List ℕ} {start : ℕ} {all : List ℕ} where
  -- all of them are, where none is stored yet
  pub left-all : {bytes : List ℕ} → bytes ≡ all → Left before start all before start bytes
  left-all e = record { ends = ap (λ (l : List ℕ). start + length l) e; gives = ap (sets before start) e }

  -- after a piece the rest is left
  pub left-next :
      (piece rest : List ℕ) {output bytes after : List ℕ} {to next : ℕ} →
      bytes ≡ piece ++ rest →
      Left before start all output to bytes →
      next ≡ to + length piece →
      after ≡ sets output to piece →
      Left before start all after next rest
  left-next piece rest {output = output} {to = to} {next = next} split left there stored = record {
    ends = omega (arith, left.ends, ap length split, length-append piece rest);
    gives = ap (λ (l : List ℕ). sets l next rest) stored ∙ sets-joined piece rest output to next there ∙ ap (sets output to) (sym split) ∙ left.gives;
  }

  -- where none is left, all are stored
  pub left-none :
      {output bytes : List ℕ} {to : ℕ} →
      bytes ≡ [] →
      Left before start all output to bytes →
      (to ≡ start + length all) × (output ≡ sets before start all)
  left-none {output = output} {to = to} none left = (sym (add-zero to) ∙ rw none at left.ends, rw none at left.gives)

-- ---- bytes that are stored of items, an item a turn

-- the bytes of `items` are left to store, of those of `all`
pub record LeftOf {A : Type 0} (text : A → List ℕ) (before : List ℕ) (start : ℕ) (all : List A) (output : List ℕ) (to : ℕ) (items : List A) : Type 0 where
  pub left : Left before start (flat_map text all) output to (flat_map text items)

module _ {A : Type 0} {text : A → List ℕ} {before : List ℕ} {start : ℕ} {all : List A} where
  pub none-stored : {items : List A} → items ≡ all → LeftOf text before start all before start items
  none-stored e = record { left = left-all (ap (flat_map text) e) }

  module _ {output : List ℕ} {to : ℕ} {items : List A} (so : LeftOf text before start all output to items) where
    -- the next of them
    module _ {item : A} {others : List A} (next : items ≡ item ∷ others) where
      split : flat_map text items ≡ text item ++ flat_map text others
      unfolding flat_map
      split = ap (flat_map text) next

      -- ends where all of them do, or before
      pub item-within : to + length (text item) ≤ start + length (flat_map text all)
      item-within = omega (arith, so.left.ends, ap length split, length-append (text item) (flat_map text others))

      pub item-stored : {after : List ℕ} {end : ℕ} → end ≡ to + length (text item) → after ≡ sets output to (text item) → LeftOf text before start all after end others
      item-stored there stored = record { left = left-next (text item) (flat_map text others) split so.left there stored }

    pub all-stored : items ≡ [] → (to ≡ start + length (flat_map text all)) × (output ≡ sets before start (flat_map text all))
    unfolding flat_map
    all-stored none = left-none (ap (flat_map text) none) so.left
