-- The laws of the fields of a line, from one tab to the next; and of words, a byte at a time.
-- Assumes nothing.
use Rattle.std.specs.Prelude.{Option, Some, None}
use Prim.Native.Nat.{ℕ, zero, suc, ◌+◌, ◌-◌, ◌<◌}
use mathlib.Core.Bool.{true, false}
use mathlib.Core.List.{List, [], ◌∷◌}
use mathlib.Core.Path.{◌≡◌, refl, ap}
use native.Mathlib.Omega.{arith}
use Rattle.std.specs.Str.{bytes_eq}
use lib.ListN.{length, get_or, drop}
use Rattle.find.specs.Find.{until, is_any}
use Rattle.table.specs.declared.tag.Tag.{Tag}
use Rattle.sheet.specs.Fields.{tab}
use Rattle.sheet.specs.Lines.{word, split, same, tag_among}
use Rattle.sheet.proofs.PartsFound.{last-part, next-part}

-- ---- the fields from a place on, with the end of the part there

module _ (s : List ℕ) (at end : ℕ) (is : end ≡ at + until (is_any (tab ∷ [])) (drop at s)) where
  pub field-none : end ≡ length s → (k : ℕ) → get_or (split tab (drop at s)).rest k [] ≡ []
  field-none e k = rw (last-part tab s at end is e)

  pub field-first : end < length s → get_or (split tab (drop at s)).rest 0 [] ≡ (split tab (drop (end + 1) s)).first
  field-first l = rw (next-part tab s at end is l)

  pub field_next : end < length s → (k : ℕ) → 0 < k → get_or (split tab (drop at s)).rest k [] ≡ get_or (split tab (drop (end + 1) s)).rest (k - 1) []
  field_next l zero h = absurd (omega arith)
  field_next l (suc k) h = rw (next-part tab s at end is l) (ap (λ (n : ℕ). get_or (split tab (drop (end + 1) s)).rest n []) (let e : k ≡ suc k - 1 = omega arith in e))

  -- how many there are
  pub count-tab : end < length s → length (split tab (drop at s)).rest ≡ suc (length (split tab (drop (end + 1) s)).rest)
  count-tab l = ap length (next-part tab s at end is l)

  pub count-last : end ≡ length s → length (split tab (drop at s)).rest ≡ 0
  count-last e = ap length (last-part tab s at end is e)

-- ---- words

-- `same` is what `==` on slices says
pub same_is : (s t : List ℕ) → same s t ≡ bytes_eq s t
unfolding same
same_is [] [] = refl
same_is [] (b ∷ t) = refl
same_is (a ∷ s) [] = refl
same_is (a ∷ s) (b ∷ t) = rw (same_is s t)

-- the tag that has a word, tried one by one
pub word_found : (t : Tag) (ts : List Tag) (w : List ℕ) {l : List ℕ} → true ≡ bytes_eq w l → l ≡ word t → Some t ≡ tag_among (t ∷ ts) w
unfolding tag_among
word_found t ts w e is = rw (same_is, ← is, ← e)

pub word_passed : (t : Tag) (u : Option Tag) (ts : List Tag) (w : List ℕ) {l : List ℕ} → false ≡ bytes_eq w l → l ≡ word t → u ≡ tag_among ts w → u ≡ tag_among (t ∷ ts) w
unfolding tag_among
word_passed t u ts w e is h = rw (same_is, ← is, ← e) h

pub word_unknown : (w : List ℕ) → None ≡ tag_among [] w
unfolding tag_among
word_unknown w = refl

pub ruleset words = (word_found, word_passed, word_unknown)
