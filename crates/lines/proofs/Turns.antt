-- What a turn of the pass comes to: the first line is not closed, is at fault, or is counted; and nothing is left.
-- Assumes nothing.
use Rattle.std.specs.Prelude.{Err, Ok}
use Prim.Native.Nat.{ℕ, ◌+◌, ◌-◌, ◌≤◌, ◌<◌}
use mathlib.Core.List.{List, [], ◌∷◌}
use mathlib.Core.Path.{◌≡◌, refl, sym, ap, ap₂, ◌∙◌}
use native.Mathlib.Omega.{arith}
use borrow.Author.Tests.{eqb-true}
use lib.Dec.{eqb}
use mathlib.Core.Bool.{true, false}
use lib.ListN.{length, take, drop, length-drop}
use Rattle.std.proofs.lemmas.List.{nil_from_length, take_all}
use Rattle.find.specs.Find.{until, is_any}
use Rattle.find.proofs.Rest.{from, from-is}
use Rattle.find.proofs.FindLaws.{until-least}
use Rattle.layout.specs.Checked.{Checked, check}
use Rattle.layout.specs.declared.refusal.Refusal.{Refusal}
use Rattle.layout.proofs.Checked.{after-fault, after-good}
use Rattle.format.specs.Records.{Record, text}
use Rattle.sheet.specs.Fields.{newline}
use Rattle.sheet.specs.FromSheet.{bad_line}
use Rattle.sheet.specs.Lines.{parts, split, read_line}
use Rattle.sheet.proofs.PartsFound.{part_end_lem, last-part, next-part}
use Rattle.sizes.specs.Measure.{finish}
use Rattle.sizes.specs.declared.sizes.Sizes.{Sizes}
use Rattle.line_reader.specs.LineTold.{line_told, sizes}
use Rattle.line_reader.specs.declared.line.LineSizes.{LineSizes}
use Rattle.lines.specs.Measure.{IsFirst, measure_lines}
use Rattle.lines.proofs.Measured.{counted}

-- measuring some lines
abbrev pub measure_from : ℕ → Sizes → List ℕ → Checked ℕ
measure_from n m s = measure_lines n m (split newline s).first (split newline s).rest

module _ (s : List ℕ) (n : ℕ) (m : Sizes) where
  pub unclosed : eqb (length s) 0 ≡ false → split newline s ≡ parts s [] → measure_from n m s ≡ Err (bad_line n)
  unfolding measure_lines check
  unclosed some is = rw (is, some) refl

  module _ (line after : List ℕ) (first : IsFirst s line after) where
    pub refused : (q : Refusal) → read_line (bad_line n) m.previous line ≡ Err q → measure_from n m s ≡ Err q
    unfolding measure_lines
    refused q e = rw first.is (after-fault _ _ e)

    pub read : (r : Record) → read_line (bad_line n) m.previous line ≡ Ok r → measure_from n m s ≡ measure_from (n + 1) (counted m r) after
    unfolding measure_lines
    read r e = rw first.is (after-good _ _ e)

  pub ended : eqb (length s) 0 ≡ true → measure_from n m s ≡ finish m
  unfolding measure_lines split check
  ended h = rw (nil_from_length s (eqb-true (length s) 0 h)) refl

-- ---- the first line of some lines

module _ (s : List ℕ) (end : ℕ) (found : end ≡ 0 + until (is_any (newline ∷ [])) (drop 0 s)) where
  first : take end s ≡ (split newline s).first
  first = ap (λ (n : ℕ). take n s) (let e : end ≡ end - 0 = omega arith in e) ∙ part_end_lem newline s 0 end found

  pub none-closed : length s ≤ end → split newline s ≡ parts s []
  none-closed h =
      let whole : end ≡ length s = omega (arith, until-least (is_any (newline ∷ [])) s) in
      ap₂ parts (sym first ∙ take_all end s h) (last-part newline s 0 end found whole)

  pub first-closed : end < length s → IsFirst s (take end s) (from (end + 1) s)
  first-closed h = rw from-is (record { is = ap₂ parts (sym first) (next-part newline s 0 end found h); shorter = omega (arith, length-drop (end + 1) s) })

-- ---- what the check of a line told

pub told-refused : (c : Checked Record) (q : Refusal) → line_told c ≡ Err q → c ≡ Err q
told-refused (Err r) q e = cc
told-refused (Ok r) q e = absurd cc

pub told_line : (c : Checked Record) (l : LineSizes) → line_told c ≡ Ok l → (r : Record) × (c ≡ Ok r) × (l ≡ sizes r.tag (length (text 0 r)) (length (text 1 r)))
told_line (Err r) l e = absurd cc
told_line (Ok r) l e = (r, refl, cc)
