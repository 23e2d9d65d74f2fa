-- The promises of specs/Promises.antt on refused sheets, each under its name.
-- Assumes nothing.
use Rattle.std.specs.Prelude.{Option, Some, None, Err, Ok}
use Prim.Native.Nat.{ℕ, ◌+◌, ◌≤◌, min}
use mathlib.Core.List.{List, [], ◌∷◌, ◌++◌}
use mathlib.Core.Logic.{◌⊎◌, inl, inr}
use mathlib.Core.Path.{◌≡◌, refl, sym, ap, ◌∙◌}
use native.Mathlib.Omega.{arith}
use lib.ListN.{length}
use Rattle.layout.specs.Checked.{Checked, check}
use Rattle.layout.specs.Refusals.{refusal_number, refusal_second}
use Rattle.layout.specs.declared.refusal.Refusal.{Refusal}
use Rattle.layout.specs.declared.refusal.Refusal.TheVariants.{NotUtf8, InnerNul, WontFit, BadLine}
use Rattle.layout.proofs.Checked.{after-fault, after-good}
use Rattle.layout.proofs.Faults.{Only, only-value as value, only-test as test, only_step as step}
use Rattle.table.specs.declared.tag.Tag.{Tag}
use Rattle.format.specs.Output.{answer}
use Rattle.format.specs.RefusedCalls.{LacksRoom}
use Rattle.format.proofs.Output.{for-room}
use Rattle.sheet.specs.Fields.{tab, newline}
use Rattle.sheet.specs.FromSheet.{read_lines, sheet_records, from_sheet, from_sheet_answer}
use Rattle.sheet.specs.Lines.{Parts, parts, split, tag_of_word, check_all, read_fields, read_line}
use Rattle.sheet.specs.Promises.{FirstFaultDecides, OfLines, CallsFirstFault, last_tag, RefusedLine, FaultyLine, CallsFaultyLine, LineNumber, OfSheet, FromSheetRefuses}
use Rattle.sheet.proofs.FaultyLines.{then-fault, check-fault, fault-is-of-a-line}
use Rattle.sheet.proofs.Splitting.{split-append}

-- ---- the first faulty line decides

-- lines at fault are so whatever stands after them
fault-stays :
    (rest : List (List ℕ)) (n : ℕ) (previous : Option Tag) (line last : List ℕ) (more : List (List ℕ)) (r : Refusal) →
    read_lines n previous line (rest ++ [] ∷ []) ≡ Err r →
    read_lines n previous line (rest ++ last ∷ more) ≡ Err r
unfolding read_lines check
fault-stays [] n previous line last more r e =
    then-fault _ _ r e
    (λ f. after-fault _ _ f)
    (λ a f g. absurd (then-fault _ _ r g (λ f. cc) (λ rs f g. cc)))
fault-stays (next ∷ rest) n previous line last more r e =
    then-fault _ _ r e
    (λ f. after-fault _ _ f)
    (λ a f g.
    after-good _ _ f ∙
    then-fault _ _ r g
    (λ f. after-fault _ _ (fault-stays rest _ (Some a.tag) next last more r f))
    (λ rs f g. absurd cc))

split-ended : (s : List ℕ) → split newline (s ++ (newline ∷ [])) ≡ parts (split newline s).first ((split newline s).rest ++ [] ∷ [])
unfolding split
split-ended s = split-append newline s []

pub first-fault-decides : FirstFaultDecides
unfolding sheet_records from_sheet from_sheet_answer answer
first-fault-decides s after r e =
    let p : Parts = split newline s in
    let q : Parts = split newline after in
    let ended = sym (ap (λ (p : Parts). read_lines 1 None p.first p.rest) (split-ended s)) ∙ e in
    let found : from_sheet (s ++ newline ∷ after) ≡ Err r = after-fault _ _ (rw (split-append newline s after) (fault-stays p.rest 1 None p.first q.first q.rest r ended)) in
    (found, λ room. ap (λ (c : Checked (List ℕ)). answer c room) found)

-- ---- which refusals there are

-- of reading a line: 11, 12, or the one that the line itself has
abbrev OfLine : Refusal → Refusal → Type 0
OfLine own refusal = (refusal ≡ NotUtf8) ⊎ (refusal ≡ InnerNul) ⊎ (refusal ≡ own)

module _ (own : Refusal) where
  texts : (ts : List (List ℕ)) → Only (OfLine own) (check_all ts)
  unfolding check_all
  texts [] = value tt
  texts (t ∷ ts) = step _ _ (test _ _ _ (inl refl) (test _ _ _ (inr (inl refl)) (value tt))) (λ _. texts ts)

  line : (previous : Option Tag) (bytes : List ℕ) → Only (OfLine own) (read_line own previous bytes)
  unfolding read_line read_fields
  line previous bytes = go (tag_of_word (split tab bytes).first)
    where
      go : (t : Option Tag) → Only (OfLine own) (read_fields own previous t (split tab bytes).rest)
      go None = record { only = λ refusal e. inr (inr (let same : refusal ≡ own = cc in same)) }
      go (Some t) = test _ _ _ (inr (inr refl)) (step _ _ (texts _) (λ _. value _))

-- of a faulty line
of-faulty : (s : List ℕ) (refusal : Refusal) (f : FaultyLine s refusal) → OfLine (BadLine (min (1 + length f.before) 4294967295)) refusal
of-faulty s refusal f = go f.own
  where
    go :
        RefusedLine (1 + length f.before) (last_tag None f.records) f.line f.after refusal →
        OfLine (BadLine (min (1 + length f.before) 4294967295)) refusal
    go (inl (last, some, is)) = inr (inr is)
    go (inr (closed, is)) = (line _ _ f.line).only refusal is

-- a sheet at fault: its lines are, or it does not fit
of-sheet : {C : Type 0} (s : List ℕ) (refusal : Refusal) → from_sheet s ≡ Err refusal → (sheet_records s ≡ Err refusal → C) → (refusal ≡ WontFit → C) → C
unfolding from_sheet
of-sheet s refusal e lines limits = then-fault _ _ refusal e lines (λ rs f g. limits (check-fault _ _ _ refusal g).1)

all_of : (s : List ℕ) (refusal : Refusal) → from_sheet s ≡ Err refusal → OfSheet refusal
all_of s refusal e =
    of-sheet s refusal e
    (λ f. let faulty = fault-is-of-a-line s refusal f in go (1 + length faulty.before) (omega arith) (of-faulty s refusal faulty))
    (λ w. inr (inr (inl w)))
  where
    go : (n : ℕ) → 1 ≤ n → OfLine (BadLine (min n 4294967295)) refusal → OfSheet refusal
    go n least (inl e) = inl e
    go n least (inr (inl e)) = inr (inl e)
    go n least (inr (inr e)) = inr (inr (inr (n, least, e)))

pub from-sheet-refuses : FromSheetRefuses
unfolding from_sheet_answer answer
from-sheet-refuses s room refusal e = go (from_sheet s) refl e
  where
    go :
        (c : Checked (List ℕ)) →
        from_sheet s ≡ c →
        answer c room ≡ Err refusal →
        ((from_sheet s ≡ Err refusal) × OfSheet refusal) ⊎ LacksRoom (from_sheet s) room refusal
    go (Err r) f g =
        let found : from_sheet s ≡ Err refusal = cc in
        inl (found, all_of s refusal found)
    go (Ok bytes) f g =
        let (lacks, short) = for-room bytes room refusal g in
        inr (bytes, f, lacks, short)

-- ---- said of the calls

-- 11, 12 and 20 are none of 18 and 19
not-of-lines : (refusal : Refusal) → OfLines refusal → (18 ≤ refusal_number refusal) → (refusal_number refusal ≤ 19) → ⊥
not-of-lines refusal (inl e) least most = omega (arith, ap refusal_number e)
not-of-lines refusal (inr (inl e)) least most = omega (arith, ap refusal_number e)
not-of-lines refusal (inr (inr (n, e))) least most = omega (arith, ap refusal_number e)

-- a call that is refused with 11, 12 or 20 is so for its lines
lines-refused : (s : List ℕ) (room : ℕ) (refusal : Refusal) → from_sheet_answer s room ≡ Err refusal → OfLines refusal → sheet_records s ≡ Err refusal
lines-refused s room refusal e of = go (from-sheet-refuses s room refusal e)
  where
    go : ((from_sheet s ≡ Err refusal) × OfSheet refusal) ⊎ LacksRoom (from_sheet s) room refusal → sheet_records s ≡ Err refusal
    go (inl (f, all)) = of-sheet s refusal f (λ g. g) (λ w. absurd (not-of-lines refusal of (omega (arith, ap refusal_number w)) (omega (arith, ap refusal_number w))))
    go (inr (bytes, f, lacks, short)) = absurd (not-of-lines refusal of (omega (arith, ap refusal_number lacks)) (omega (arith, ap refusal_number lacks)))

pub calls-first-fault : CallsFirstFault
calls-first-fault s after room room' refusal e of = (first-fault-decides s after refusal (lines-refused (s ++ (newline ∷ [])) room refusal e of)).1 room'

pub calls-faulty-line : CallsFaultyLine
calls-faulty-line s room refusal e of = fault-is-of-a-line s refusal (lines-refused s room refusal e of)

pub line-number : LineNumber
line-number s room n e small =
    let faulty = calls-faulty-line s room (BadLine n) e (inr (inr (n, refl))) in
    (faulty, go (1 + length faulty.before) (of-faulty s (BadLine n) faulty))
  where
    go : (k : ℕ) → OfLine (BadLine (min k 4294967295)) (BadLine n) → n ≡ k
    go k (inl e) = let z : ◌≡◌ {A = ℕ} 11 20 = ap refusal_number (sym e) in absurd (omega arith)
    go k (inr (inl e)) = let z : ◌≡◌ {A = ℕ} 12 20 = ap refusal_number (sym e) in absurd (omega arith)
    go k (inr (inr e)) = let same : n ≡ min k 4294967295 = ap refusal_second e in omega arith
