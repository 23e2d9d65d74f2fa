-- Lines by their parts: what is stored piece by piece is one run, and a line is its word, its fields, each after a tab, and a newline.
-- Assumes nothing.
use Prim.Native.Nat.{ℕ, ◌+◌}
use mathlib.Core.List.{List, [], ◌∷◌, ◌++◌, flat_map, append_assoc}
use mathlib.Core.Path.{◌≡◌, sym, ap, ◌∙◌}
use native.Mathlib.Omega.{arith}
use lib.ListN.{length, length-append}
use lib.Seq.{sets}
use Rattle.wire.proofs.Sets.{sets-joined}
use Rattle.sheet.specs.Fields.{tab, newline}
use Rattle.sheet.specs.Lines.{parted}

-- ---- pieces

-- bytes are stored from a place on, and `at` is the place after them
pub record Stored (before : List ℕ) (to : ℕ) (bytes output : List ℕ) (at : ℕ) : Type 0 where
  pub is : output ≡ sets before to bytes
  pub ends : at ≡ to + length bytes

module _ {before : List ℕ} {to : ℕ} where
  pub first-stored : {bytes output : List ℕ} {at : ℕ} → output ≡ sets before to bytes → at ≡ to + length bytes → Stored before to bytes output at
  first-stored e f = record { is = e; ends = f }

  pub then-stored :
      {bytes output : List ℕ} {at : ℕ} (more : List ℕ) {after : List ℕ} {next : ℕ} →
      Stored before to bytes output at →
      after ≡ sets output at more →
      next ≡ at + length more →
      Stored before to (bytes ++ more) after next
  then-stored {bytes} {at = at} more s e f =
      record {
        is = e ∙ ap (λ (l : List ℕ). sets l at more) s.is ∙ sets-joined bytes more before to at s.ends;
        ends = omega (arith, s.ends, length-append bytes more);
      }

  -- pieces that are a line are stored as the line
  pub as-line : {bytes line output : List ℕ} {at : ℕ} → line ≡ bytes → Stored before to bytes output at → Stored before to line output at
  as-line e s = record { is = s.is ∙ ap (sets before to) (sym e); ends = s.ends ∙ ap (λ (l : List ℕ). to + length l) (sym e) }

-- ---- lines

-- a field with its tab
abbrev pub field : List ℕ → List ℕ
field f = tab ∷ f

abbrev pub end : List ℕ
end = newline ∷ []

-- one field more after what a line begins with
next_field : (w f : List ℕ) (fs : List (List ℕ)) → w ++ (parted (f ∷ fs) ++ end) ≡ (w ++ field f) ++ (parted fs ++ end)
unfolding flat_map
next_field w f fs = ap (λ (l : List ℕ). w ++ l) (append_assoc (field f) (parted fs) end) ∙ sym (append_assoc w (field f) (parted fs ++ end))

pub one_field : (w f : List ℕ) → w ++ (parted (f ∷ []) ++ end) ≡ (w ++ field f) ++ end
unfolding flat_map
one_field w f = next_field w f []

pub two_fields : (w f g : List ℕ) → w ++ (parted (f ∷ g ∷ []) ++ end) ≡ ((w ++ field f) ++ field g) ++ end
two_fields w f g = next_field w f (g ∷ []) ∙ one_field (w ++ field f) g

pub four-fields : (w f g h k : List ℕ) → w ++ (parted (f ∷ g ∷ h ∷ k ∷ []) ++ end) ≡ ((((w ++ field f) ++ field g) ++ field h) ++ field k) ++ end
four-fields w f g h k = next_field w f (g ∷ h ∷ k ∷ []) ∙ next_field (w ++ field f) g (h ∷ k ∷ []) ∙ two_fields ((w ++ field f) ++ field g) h k
