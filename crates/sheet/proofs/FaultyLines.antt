-- A fault of a sheet is that of its first faulty line, with this line's number.
-- Assumes nothing.
use Rattle.std.specs.Prelude.{Option, Some, None, Err, Ok}
use Prim.Native.Nat.{ℕ, ◌+◌}
use mathlib.Core.Bool.{Bool, true, false}
use mathlib.Core.List.{List, [], ◌∷◌, ◌++◌, flat_map, append_assoc}
use mathlib.Core.Logic.{inl, inr}
use mathlib.Core.Path.{◌≡◌, refl, ap, subst, ◌∙◌}
use native.Mathlib.Nat.{add-zero}
use native.Mathlib.Omega.{arith}
use borrow.Author.Tests.{eqb-false}
use lib.ListN.{length}
use Rattle.layout.specs.Checked.{Checked, check, then}
use Rattle.layout.specs.declared.refusal.Refusal.{Refusal}
use Rattle.layout.proofs.Checked.{then-passes}
use Rattle.table.specs.declared.tag.Tag.{Tag}
use Rattle.format.specs.Records.{Record}
use Rattle.format.specs.WellFormed.{All}
use Rattle.sheet.specs.Fields.{newline}
use Rattle.sheet.specs.FromSheet.{read_lines, sheet_records}
use Rattle.sheet.specs.Lines.{Parts, parts, split}
use Rattle.sheet.specs.Promises.{closed, last_tag, RefusedLine, FaultIsOfALine}
use Rattle.sheet.proofs.Splitting.{Free, closed-split, split-free}

-- where two steps come to a fault, the first does, or the second after its value
pub then-fault :
    {A B C : Type 0} (c : Checked A) (next : A → Checked B) (r : Refusal) →
    then c next ≡ Err r →
    (c ≡ Err r → C) →
    ((a : A) → c ≡ Ok a → next a ≡ Err r → C) →
    C
unfolding then
then-fault (Err q) next r e first second = first (cc)
then-fault (Ok a) next r e first second = second a refl e

-- a last test that comes to a fault
pub check-fault : {A : Type 0} (test : Bool) (refusal : Refusal) (a : A) (r : Refusal) → check test refusal (λ _. Ok a) ≡ Err r → (test ≡ false) × (r ≡ refusal)
unfolding check
check-fault true refusal a r e = absurd cc
check-fault false refusal a r e = (refl, cc)

-- the parts of closed lines
closed_parts_lem :
    (line : List ℕ) (lines : List (List ℕ)) →
    Free newline line →
    (let p : Parts = split newline (closed lines) in
    split newline (closed (line ∷ lines)) ≡ parts line (p.first ∷ p.rest))
unfolding flat_map
closed_parts_lem line lines free = ap (split newline) (append_assoc line (newline ∷ []) (closed lines)) ∙ closed-split newline line (closed lines) free

-- what is found among parts, the first of which has a number and stands after a line of the previous tag
record Found (n : ℕ) (previous : Option Tag) (first : List ℕ) (rest : List (List ℕ)) (refusal : Refusal) : Type 0 where
  before : List (List ℕ)
  line : List ℕ
  after : List (List ℕ)
  parted : first ∷ rest ≡ before ++ line ∷ after
  records : List Record
  read : read_lines n previous (split newline (closed before)).first (split newline (closed before)).rest ≡ Ok records
  own : RefusedLine (n + length before) (last_tag previous records) line after refusal

-- where the first part is at fault
here :
    (n : ℕ) (previous : Option Tag) (first : List ℕ) (rest : List (List ℕ)) (refusal : Refusal) → RefusedLine n previous first rest refusal → Found n previous first rest refusal
unfolding read_lines split flat_map check last_tag
here n previous first rest refusal own =
    record { before = []; line = first; after = rest; parted = refl; records = []; read = refl; own = rw (add-zero n) own }

find :
    (rest : List (List ℕ)) (n : ℕ) (previous : Option Tag) (first : List ℕ) (refusal : Refusal) →
    read_lines n previous first rest ≡ Err refusal →
    Free newline first →
    All (Free newline) rest →
    Found n previous first rest refusal
unfolding read_lines last_tag
find [] n previous last refusal e free frees =
    let (some, is) = check-fault _ _ _ refusal e in
    here n previous last [] refusal (inl (refl, omega (arith, eqb-false (length last) 0 some), is))
find (next ∷ rest) n previous first refusal e free (k, ks) =
    then-fault _ _ refusal e
    (λ f. here n previous first (next ∷ rest) refusal (inr (omega arith, f)))
    (λ r this g.
    then-fault _ _ refusal g
    (λ f.
    let h = find rest _ (Some r.tag) next refusal f k ks in
    record {
      before = first ∷ h.before;
      line = h.line;
      after = h.after;
      parted = ap (λ (l : List (List ℕ)). first ∷ l) h.parted;
      records = r ∷ h.records;
      read = rw (closed_parts_lem first h.before free) (then-passes _ _ this (then-passes _ _ h.read refl));
      own = subst (λ (number : ℕ). RefusedLine number (last_tag (Some r.tag) h.records) h.line h.after refusal) (omega arith) h.own;
    })
    (λ rs f g. absurd cc))

pub fault-is-of-a-line : FaultIsOfALine
unfolding sheet_records
fault-is-of-a-line s refusal e =
    let p : Parts = split newline s in
    let (free, frees) = split-free newline s in
    let h = find p.rest 1 None p.first refusal e free frees in
    record {
      before = h.before;
      line = h.line;
      after = h.after;
      parted = h.parted;
      records = h.records;
      read = h.read;
      own = h.own;
    }
