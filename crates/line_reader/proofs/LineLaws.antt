-- What the check of a line comes to: the sizes that the code takes by the tag are those of the record that the line says, and its texts are
-- checked as they stand.
-- Assumes nothing.
use Rattle.std.specs.Prelude.{Option, Err, Ok, None, Some}
use Prim.Native.Nat.{ℕ, zero, suc, ◌+◌, ◌%◌}
use mathlib.Core.Bool.{Bool, true, false, cond, ◌&&◌, and-true, and-false, and_assoc, and-eq-true_iff}
use mathlib.Core.List.{List, [], ◌∷◌}
use mathlib.Core.Path.{◌≡◌, refl, sym, ap, ap₂, subst, ◌∙◌}
use native.Mathlib.Nat.{zero-add}
use native.Mathlib.Omega.{arith}
use borrow.Author.Tests.{eqb-true}
use lib.Dec.{leb, eqb}
use lib.ListN.{length, get_or, drop}
use Rattle.layout.specs.Checked.{Checked, check, then, taking}
use Rattle.layout.specs.declared.refusal.Refusal.{Refusal}
use Rattle.table.specs.Tags.{same_tag}
use Rattle.table.specs.declared.tag.Tag.{Tag}
use Rattle.table.specs.declared.tag.Tag.TheVariants as tag
use Rattle.format.specs.Records.{number_count, text_count, is_placed, text}
use Rattle.sheet.specs.Fields.{all, is_number, number_of, is_hex_pairs, bytes_of_pairs, is_escaped, unescape}
use Rattle.sheet.specs.Lines.{said_by, is_made, is_ruled, check_all, texts_of, read_fields}
use Rattle.sheet.proofs.TextsAsTheyStand.{checked-as-it-stands}
use Rattle.line_reader.specs.LineTold.{sizes, line_told, sized_told, is_kind, line_sizes, text_fields}
use Rattle.line_reader.specs.Sizes.{size_told}
use Rattle.line_reader.specs.declared.line.LineSizes.{LineSizes}

-- ---- the sizes of a line

-- whether a line of a tag is one by its fields, and its sizes then
abbrev is_good_line : Tag → List (List ℕ) → Bool
is_good_line t fs = is_made t fs && is_ruled (said_by t fs)

abbrev sizes_said : Tag → List (List ℕ) → LineSizes
sizes_said t fs = sizes t (length (text 0 (said_by t fs))) (length (text 1 (said_by t fs)))

abbrev line_said : Tag → List (List ℕ) → Option LineSizes
line_said t fs = cond (is_good_line t fs) (Some (sizes_said t fs)) None

sized-where :
    (t : Tag) (x y z : Bool) (a b : ℕ) →
    sized_told t x (size_told y a) (size_told z b) ≡ cond (x && y && z) (Some (sizes t a b)) None
sized-where t true true true a b = refl
sized-where t true true false a b = refl
sized-where t true false z a b = refl
sized-where t false y z a b = refl

sized-said :
    (t : Tag) (fs : List (List ℕ)) (x y z : Bool) (a b : ℕ) →
    (x && y && z) ≡ is_good_line t fs →
    a ≡ length (text 0 (said_by t fs)) →
    b ≡ length (text 1 (said_by t fs)) →
    sized_told t x (size_told y a) (size_told z b) ≡ line_said t fs
sized-said t fs x y z a b e f g = sized-where t x y z a b ∙ ap₂ (λ (good : Bool) (s : LineSizes). cond good (Some s) None) e (ap₂ (sizes t) f g)

-- as many fields as there are, one by one
firsts : ℕ → List (List ℕ) → List (List ℕ)
firsts zero fs = []
firsts (suc n) fs = get_or fs 0 [] ∷ firsts n (drop 1 fs)

exactly : (n : ℕ) (fs : List (List ℕ)) → length fs ≡ n → firsts n fs ≡ fs
unfolding firsts
exactly zero [] e = refl
exactly zero (f ∷ fs) e = absurd (omega arith)
exactly (suc n) [] e = absurd (omega arith)
exactly (suc n) (f ∷ fs) e = ap (λ (l : List (List ℕ)). f ∷ l) (exactly n fs (omega arith))

-- what is shown of a line of a tag: its sizes, and its texts where each field is one
record Shown (t : Tag) (fs : List (List ℕ)) : Type 0 where
  sizes-are : line_sizes t fs ≡ line_said t fs
  texts-are : is_made t fs ≡ true → check_all (text_fields t fs) ≡ check_all (texts_of (said_by t fs))

rule-last : (n l m e h : Bool) → (n && (l && m) && e && h && true) ≡ (n && true && (h && true) && (l && m && e))
rule-last true true true true true = refl
rule-last true true true true false = refl
rule-last true true true false true = refl
rule-last true true true false false = refl
rule-last true true false e true = refl
rule-last true true false e false = refl
rule-last true false m e true = refl
rule-last true false m e false = refl
rule-last false l m e h = refl

plain : (f : List ℕ) → Shown tag.PlainContents (f ∷ [])
unfolding line_sizes is_made all same_tag text_fields
plain f = record {
  sizes-are = sized-said tag.PlainContents (f ∷ []) (is_number f) true true 0 0 (simp and-true) refl refl;
  texts-are = λ e. refl;
}

packed : (a b c f : List ℕ) → Shown tag.PackedContents (a ∷ b ∷ c ∷ f ∷ [])
unfolding line_sizes is_made all same_tag text_fields
packed a b c f = record {
  sizes-are =
      sized-said tag.PackedContents (a ∷ b ∷ c ∷ f ∷ []) (is_number a && is_number b && is_number c) (is_hex_pairs f) true (length (bytes_of_pairs f)) 0
      (simp (and-true, and_assoc))
      refl
      refl;
  texts-are = λ e. refl;
}

bare : (t : Tag) → number_count t + text_count t ≡ 0 → Shown t []
unfolding line_sizes is_made all same_tag text_fields check_all
bare tag.Names e = record { sizes-are = refl; texts-are = λ e. refl }
bare tag.Arguments e = record { sizes-are = refl; texts-are = λ e. refl }
bare tag.PlainContents e = absurd (omega arith)
bare tag.PackedContents e = absurd (omega arith)
bare tag.Unknown e = absurd (omega arith)
bare tag.Content e = absurd (omega arith)
bare tag.Name e = absurd (omega arith)
bare tag.Pair e = absurd (omega arith)

other : (k f : List ℕ) → Shown tag.Unknown (k ∷ f ∷ [])
unfolding line_sizes is_made all same_tag text_fields
other k f = record {
  sizes-are =
      let is : Bool = eqb (length (bytes_of_pairs f) % 4) 0 in
      sized-said tag.Unknown (k ∷ f ∷ []) (is_kind k && is) (is_hex_pairs f) true (length (bytes_of_pairs f)) 0
      (rule-last (is_number k) (leb 3 (number_of k)) (leb (number_of k) 65535) is (is_hex_pairs f))
      refl
      refl;
  texts-are = λ e. refl;
}

content : (f : List ℕ) → Shown tag.Content (f ∷ [])
unfolding line_sizes is_made all same_tag text_fields check_all
content f = record {
  sizes-are = sized-said tag.Content (f ∷ []) true (is_escaped f) true (0 + length (unescape f)) 0 (simp and-true) (zero-add _) refl;
  texts-are = λ e. rw (checked-as-it-stands f (sym (and-true (is_escaped f)) ∙ e));
}

name : (n f : List ℕ) → Shown tag.Name (n ∷ f ∷ [])
unfolding line_sizes is_made all same_tag text_fields check_all
name n f = record {
  sizes-are = sized-said tag.Name (n ∷ f ∷ []) (is_number n) (is_escaped f) true (0 + length (unescape f)) 0 (simp and-true) (zero-add _) refl;
  texts-are = λ e. let (number, this) = (and-eq-true_iff (is_number n && true) (is_escaped f && true)).0 e in rw (checked-as-it-stands f (sym (and-true (is_escaped f)) ∙ this));
}

pair : (f g : List ℕ) → Shown tag.Pair (f ∷ g ∷ [])
unfolding line_sizes is_made all same_tag text_fields check_all
pair f g = record {
  sizes-are = sized-said tag.Pair (f ∷ g ∷ []) true (is_escaped f) (is_escaped g) (0 + length (unescape f)) (0 + length (unescape g)) (simp and-true) (zero-add _) (zero-add _);
  texts-are = λ e.
      let (first, second) = (and-eq-true_iff (is_escaped f) (is_escaped g && true)).0 e in
      rw (checked-as-it-stands f first, checked-as-it-stands g (sym (and-true (is_escaped g)) ∙ second));
}

-- a line of as many fields as its tag has
shown : (t : Tag) (fs : List (List ℕ)) → length fs ≡ number_count t + text_count t → Shown t fs
unfolding firsts
shown tag.PlainContents fs e = subst (Shown tag.PlainContents) (exactly 1 fs e) (plain _)
shown tag.PackedContents fs e = subst (Shown tag.PackedContents) (exactly 4 fs e) (packed _ _ _ _)
shown tag.Names fs e = subst (Shown tag.Names) (exactly 0 fs e) (bare tag.Names refl)
shown tag.Arguments fs e = subst (Shown tag.Arguments) (exactly 0 fs e) (bare tag.Arguments refl)
shown tag.Unknown fs e = subst (Shown tag.Unknown) (exactly 2 fs e) (other _ _)
shown tag.Content fs e = subst (Shown tag.Content) (exactly 1 fs e) (content _)
shown tag.Name fs e = subst (Shown tag.Name) (exactly 2 fs e) (name _ _)
shown tag.Pair fs e = subst (Shown tag.Pair) (exactly 2 fs e) (pair _ _)

-- ---- the check of a line

pub line-untagged : (q : Refusal) (previous : Option Tag) (fs : List (List ℕ)) → line_told (read_fields q previous None fs) ≡ Err q
unfolding read_fields
line-untagged q previous fs = refl

module _ (q : Refusal) (previous : Option Tag) (t : Tag) (fs : List (List ℕ)) where
  pub line-misplaced : is_placed previous t ≡ false → line_told (read_fields q previous (Some t) fs) ≡ Err q
  unfolding read_fields check
  line-misplaced e = rw (e, and-false)

  pub line-miscounted : eqb (length fs) (number_count t + text_count t) ≡ false → line_told (read_fields q previous (Some t) fs) ≡ Err q
  unfolding read_fields check is_made
  line-miscounted e = rw e

  module _ (placed : is_placed previous t ≡ true) (many : eqb (length fs) (number_count t + text_count t) ≡ true) where
    h : Shown t fs
    h = shown t fs (eqb-true _ _ many)

    -- where a line is refused for its fields
    pub line-unsized : line_sizes t fs ≡ None → line_told (read_fields q previous (Some t) fs) ≡ Err q
    unfolding read_fields check
    line-unsized e = rw placed (go (is_made t fs) (is_ruled (said_by t fs)) (sym h.sizes-are ∙ e))
      where
        go :
            (made ruled : Bool) →
            cond (made && ruled) (Some (sizes_said t fs)) None ≡ None →
            line_told (check (made && true && ruled) q (λ _. then (check_all (texts_of (said_by t fs))) (λ _. Ok (said_by t fs)))) ≡ Err q
        go true true e = absurd cc
        go true false e = refl
        go false ruled e = refl

    -- where it is refused for its texts, or has its sizes
    pub line-sized :
        (s : LineSizes) (c : Checked (Unit {0})) →
        line_sizes t fs ≡ Some s →
        check_all (text_fields t fs) ≡ c →
        line_told (read_fields q previous (Some t) fs) ≡ taking (λ _. s) c
    unfolding read_fields check then
    line-sized s c e d = rw placed (go (is_made t fs) refl (is_ruled (said_by t fs)) (sym h.sizes-are ∙ e))
      where
        ended : (c : Checked (Unit {0})) → line_told (then c (λ _. Ok (said_by t fs))) ≡ taking (λ _. sizes_said t fs) c
        ended (Err r) = refl
        ended (Ok a) = refl

        go :
            (made : Bool) →
            is_made t fs ≡ made →
            (ruled : Bool) →
            cond (made && ruled) (Some (sizes_said t fs)) None ≡ Some s →
            line_told (check (made && true && ruled) q (λ _. then (check_all (texts_of (said_by t fs))) (λ _. Ok (said_by t fs)))) ≡ taking (λ _. s) c
        go true m true f =
            let is : sizes_said t fs ≡ s = cc in
            ended (check_all (texts_of (said_by t fs))) ∙ ap₂ (λ (s : LineSizes) (c : Checked (Unit {0})). taking (λ _. s) c) is (sym (h.texts-are m) ∙ d)
        go true m false f = absurd cc
        go false m ruled f = absurd cc
