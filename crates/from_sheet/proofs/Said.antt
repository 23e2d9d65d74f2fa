-- What is known of the fields of a line that has just its fields: each says a number, or a text of its record, and is one.
-- Assumes nothing.
use Rattle.std.specs.Option.{unwrap_or}
use Rattle.std.proofs.lemmas.List.{get_or-map, get_or-take, get_or-drop}
use Prim.Native.Nat.{ℕ, zero, suc, ◌+◌, ◌-◌, ◌≤◌, ◌<◌}
use mathlib.Core.Bool.{Bool, true, and-eq-true_iff}
use mathlib.Core.List.{List, [], ◌∷◌}
use mathlib.Core.Path.{◌≡◌, sym, ap, ap₂, ◌∙◌}
use native.Mathlib.Omega.{arith}
use lib.ListN.{length, get_or, take, drop, length-take, length-drop}
use Rattle.table.specs.declared.tag.Tag.{Tag}
use Rattle.table.specs.declared.tag.Tag.TheVariants as tag
use Rattle.format.specs.Encoding.{content_entry, name_entry, pair_entry}
use Rattle.format.specs.Records.{Record, number_count, text_count, number, text}
use Rattle.frames.specs.Entry.{name, pair}
use Rattle.sheet.specs.Fields.{all, is_number, number_of, unescape}
use Rattle.sheet.specs.Lines.{is_shown, said, said_by, is_made, is_ruled}
use Rattle.line_reader.specs.Numbers.{number_told}
use Rattle.from_sheet.specs.Run.{entry_bytes}
use Rattle.sheet.proofs.LinesRead.{kind_ok, Fields, each-field}

-- what passes all of them passes each
each-passes : {A : Type 0} (passes : A → Bool) (d : A) (l : List A) (k : ℕ) → k < length l → all passes l ≡ true → passes (get_or l k d) ≡ true
unfolding all
each-passes passes d [] k h e = absurd (omega arith)
each-passes passes d (x ∷ l) zero h e = ((and-eq-true_iff (passes x) (all passes l)).0 e).0
each-passes passes d (x ∷ l) (suc k) h e = each-passes passes d l k (omega arith) ((and-eq-true_iff (passes x) (all passes l)).0 e).1

module _ (t : Tag) (fs : List (List ℕ)) (made : is_made t fs ≡ true) (k : ℕ) where
  fields : Fields t fs made
  fields = each-field t fs made

  module _ (less : k < number_count t) where
    inside : k < length (take (number_count t) fs)
    inside = rw length-take (omega (arith, fields.many))

    here : get_or (take (number_count t) fs) k [] ≡ get_or fs k []
    here = get_or-take (number_count t) fs k [] less

    pub number-made : is_number (get_or fs k []) ≡ true
    number-made = ap is_number (sym here) ∙ each-passes is_number [] (take (number_count t) fs) k inside fields.numbers

    pub number-said : number k (said_by t fs) ≡ number_of (get_or fs k [])
    number-said = get_or-map number_of (take (number_count t) fs) k [] 0 inside ∙ ap number_of here

    -- as it is read
    pub number-read : unwrap_or (number_told (get_or fs k [])) 0 ≡ number k (said_by t fs)
    number-read = rw (number-made, number-said)

  module _ (least : number_count t ≤ k) (less : k < number_count t + text_count t) where
    within : k - number_count t < length (drop (number_count t) fs)
    within = rw length-drop (omega (arith, fields.many))

    there : get_or (drop (number_count t) fs) (k - number_count t) [] ≡ get_or fs k []
    there = get_or-drop (number_count t) fs (k - number_count t) [] ∙ ap (λ (n : ℕ). get_or fs n []) (let q : number_count t + (k - number_count t) ≡ k = omega arith in q)

    pub shown-made : is_shown t (get_or fs k []) ≡ true
    shown-made = ap (is_shown t) (sym there) ∙ each-passes (is_shown t) [] (drop (number_count t) fs) (k - number_count t) within fields.texts

    pub text-said : text (k - number_count t) (said_by t fs) ≡ said t (get_or fs k [])
    text-said = get_or-map (said t) (drop (number_count t) fs) (k - number_count t) [] [] within ∙ ap (said t) there

-- the kind of an unknown section has 16 bits
pub kind_fits : (r : Record) → r.tag ≡ tag.Unknown → is_ruled r ≡ true → number 0 r ≤ 65535
kind_fits r e ruled = (kind_ok r tag.Unknown e ruled).1

-- ---- the entry that a record is, by what its fields say

module _ (r : Record) where
  pub content-is : (f : List ℕ) → r.tag ≡ tag.Content → said r.tag f ≡ text (0 - number_count r.tag) r → entry_bytes r.tag r ≡ content_entry (unescape f)
  unfolding entry_bytes
  content-is f e h = rw e (ap content_entry (sym (rw e at h)))

  pub name-is : (f : List ℕ) {n : ℕ} → r.tag ≡ tag.Name → said r.tag f ≡ text (1 - number_count r.tag) r → n ≡ number 0 r → entry_bytes r.tag r ≡ name_entry (name (unescape f) n)
  unfolding entry_bytes
  name-is f e h size = rw e (ap₂ (λ (t : List ℕ) (n : ℕ). name_entry (name t n)) (sym (rw e at h)) (sym size))

  pub pair_is :
      (f g : List ℕ) →
      r.tag ≡ tag.Pair →
      said r.tag f ≡ text (0 - number_count r.tag) r →
      said r.tag g ≡ text (1 - number_count r.tag) r →
      entry_bytes r.tag r ≡ pair_entry (pair (unescape f) (unescape g))
  unfolding entry_bytes
  pair_is f g e first second = rw e (ap₂ (λ (f g : List ℕ). pair_entry (pair f g)) (sym (rw e at first)) (sym (rw e at second)))
