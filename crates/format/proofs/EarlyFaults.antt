-- Reading itself refuses with 1 to 15 alone, and with second number 0: every fault that a definition can come to is one of these.
-- Assumes nothing.
use Rattle.std.specs.Prelude.{Err}
use Prim.Native.Nat.{ℕ, zero, suc, ◌≤◌}
use mathlib.Core.Bool.{Bool, true, ◌&&◌, and-eq-true_iff}
use mathlib.Core.List.{List, []}
use mathlib.Core.Path.{◌≡◌, refl}
use borrow.Author.Tests.{leb-true, eqb-true}
use lib.Dec.{leb, eqb}
use Rattle.layout.specs.Checked.{Checked}
use Rattle.layout.specs.Refusals.{refusal_number, refusal_second}
use Rattle.layout.specs.declared.compression.SourceCompression.{SourceCompression}
use Rattle.layout.specs.declared.compression.SourceCompression.TheVariants.{None, Zlib}
use Rattle.layout.specs.declared.section_type.SourceInfoSectionType.{SourceInfoSectionType}
use Rattle.layout.specs.declared.section_type.SourceInfoSectionType.TheVariants.{SourceContents, SourceNames, Arguments, Unknown}
use Rattle.layout.specs.TextCheck.{check_text}
use Rattle.table.specs.declared.row.Row.{Row}
use Rattle.layout.specs.declared.refusal.Refusal.{Refusal}
use Rattle.layout.proofs.Faults.{Only, only-value as value, only-test as test, only_step as step}
use Rattle.format.specs.Parse.{terminated_text, entry, entries, pair_text, pair, pairs, framed, parse_arguments, parse_names, parse_stored, parse_contents, parse_section, frame, parse_sections, parse}

-- one of 1 to 15, with second number 0
abbrev early : Refusal → Bool
early r = leb 1 (refusal_number r) && leb (refusal_number r) 15 && eqb (refusal_second r) 0

-- every fault is such a one
abbrev Early : {A : Type 0} → Checked A → Type 0
Early c = Only (λ (r : Refusal). early r ≡ true) c

text : (bytes : List ℕ) (start count : ℕ) → Early (check_text bytes start count)
unfolding check_text
text bytes start count = test _ _ _ refl (test _ _ _ refl (value tt))

terminated : (p : List ℕ) (at size zeros : ℕ) → Early (terminated_text p at size zeros)
unfolding terminated_text
terminated p at size zeros = test _ _ _ refl (step _ _ (text _ _ _) (λ _. test _ _ _ refl (value tt)))

one_entry : (header : ℕ) (p : List ℕ) (at end : ℕ) → Early (entry header p at end)
unfolding entry
one_entry header p at end =
    test _ _ _ refl
    (test _ _ _ refl (test _ _ _ refl (test _ _ _ refl (test _ _ _ refl (step _ _ (terminated _ _ _ _) (λ _. value _))))))

all-entries : (header : ℕ) (row_of : ℕ → ℕ → Row) (count : ℕ) (p : List ℕ) (at end : ℕ) → Early (entries header row_of count p at end)
unfolding entries
all-entries header row_of zero p at end = test _ _ _ refl (value [])
all-entries header row_of (suc count) p at end =
    step _ _ (one_entry header p at end) (λ n. step _ _ (all-entries header row_of count p _ end) (λ rows. value _))

one-text : (p : List ℕ) (at end : ℕ) → Early (pair_text p at end)
unfolding pair_text
one-text p at end = test _ _ _ refl (step _ _ (text _ _ _) (λ _. value _))

one-pair : (p : List ℕ) (at end : ℕ) → Early (pair p at end)
unfolding pair
one-pair p at end = step _ _ (one-text p at end) (λ name. step _ _ (one-text p _ end) (λ value'. value _))

all-pairs : (count : ℕ) (p : List ℕ) (at end : ℕ) → Early (pairs count p at end)
unfolding pairs
all-pairs zero p at end = test _ _ _ refl (value [])
all-pairs (suc count) p at end = step _ _ (one-pair p at end) (λ r. step _ _ (all-pairs count p _ end) (λ rows. value _))

around : (p : List ℕ) (at size headers bytes : ℕ) → Early (framed p at size headers bytes)
unfolding framed
around p at size headers bytes = test _ _ _ refl (test _ _ _ refl (value tt))

in-contents : (compression : SourceCompression) (p : List ℕ) (at : ℕ) → Early (parse_stored compression p at)
unfolding parse_stored
in-contents None p at = test _ _ _ refl (step _ _ (all-entries 12 _ _ p _ _) (λ rows. value _))
in-contents Zlib p at = value _

one-section : (kind : SourceInfoSectionType) (p : List ℕ) (at size : ℕ) → Early (parse_section kind p at size)
unfolding parse_section parse_contents parse_names parse_arguments
one-section SourceContents p at size =
    test _ _ _ refl (test _ _ _ refl (test _ _ _ refl (step _ _ (around p at size 28 _) (λ _. in-contents _ p at))))
one-section SourceNames p at size =
    test _ _ _ refl (test _ _ _ refl (step _ _ (around p at size 18 _) (λ _. step _ _ (all-entries 16 _ _ p _ _) (λ rows. value _))))
one-section Arguments p at size =
    test _ _ _ refl (test _ _ _ refl (step _ _ (around p at size 20 _) (λ _. step _ _ (all-pairs _ p _ _) (λ rows. value _))))
one-section (Unknown kind) p at size = value _

one-frame : (p : List ℕ) (at : ℕ) → Early (frame p at)
unfolding frame
one-frame p at = test _ _ _ refl (test _ _ _ refl (test _ _ _ refl (test _ _ _ refl (test _ _ _ refl (value _)))))

all-sections : (count : ℕ) (p : List ℕ) (at : ℕ) → Early (parse_sections count p at)
unfolding parse_sections
all-sections zero p at = test _ _ _ refl (value [])
all-sections (suc count) p at =
    step _ _ (one-frame p at) (λ size. step _ _ (one-section _ p at size) (λ first. step _ _ (all-sections count p _) (λ rest. value _)))

whole : (p : List ℕ) → Early (parse p)
unfolding parse
whole p =
    test _ _ _ refl (test _ _ _ refl (test _ _ _ refl (test _ _ _ refl (test _ _ _ refl (all-sections _ p 8)))))

pub reading-refuses : (p : List ℕ) (r : Refusal) → parse p ≡ Err r → ((1 ≤ refusal_number r) × (refusal_number r ≤ 15)) × (refusal_second r ≡ 0)
reading-refuses p r e =
    let ((least, most), second) = simp and-eq-true_iff at ((whole p).only r e) in
    ((leb-true 1 (refusal_number r) least, leb-true (refusal_number r) 15 most), eqb-true (refusal_second r) 0 second)
