-- Measuring lines comes to the length of the payload that a sheet is written as, or to its refusal.
-- Assumes nothing.
use Rattle.std.specs.Prelude.{Option, Some, Err, Ok}
use Prim.Native.Nat.{ℕ, ◌+◌}
use mathlib.Core.Bool.{Bool, true, false}
use lib.Dec.{eqb}
use mathlib.Core.List.{List, [], ◌∷◌}
use mathlib.Core.Path.{◌≡◌, refl, ap, ◌∙◌}
use lib.ListN.{length}
use Rattle.layout.specs.Checked.{Checked, check, then}
use Rattle.layout.specs.declared.refusal.Refusal.TheVariants.{WontFit}
use Rattle.table.specs.declared.tag.Tag.{Tag}
use Rattle.format.specs.Encoding.{encode, within_limits}
use Rattle.format.specs.Records.{Record, text, sections}
use Rattle.sheet.specs.Fields.{newline}
use Rattle.sheet.specs.FromSheet.{bad_line, read_lines, sheet_records, from_sheet}
use Rattle.sheet.specs.Lines.{split, read_line}
use Rattle.sheet.proofs.SheetsRead.{read-records}
use Rattle.sizes.specs.Measure.{sized, nothing, advance, finish, measure_records}
use Rattle.sizes.specs.declared.sizes.Sizes.{Sizes}
use Rattle.sizes.proofs.MeasuredRecords.{measured-records, next-tag}
use Rattle.sizes.proofs.Sized.{sized-check}
use Rattle.lines.specs.Measure.{measure_lines}

-- what follows a line, with what it says
abbrev pub counted : Sizes → Record → Sizes
counted m r = advance m (Some r.tag) (length (text 0 r)) (length (text 1 r))

-- the lines' records are measured, once all are read
lines-measured :
    (rest : List (List ℕ)) (n : ℕ) (m : Sizes) (line : List ℕ) →
    measure_lines n m line rest ≡ then (read_lines n m.previous line rest) (λ (rs : List Record). finish (measure_records m rs))
unfolding measure_lines read_lines measure_records check then
lines-measured [] n m line = go (eqb (length line) 0)
  where
    go : (b : Bool) → check b (bad_line n) (λ _. finish m) ≡ then (check b (bad_line n) (λ _. Ok [])) (λ (rs : List Record). finish (measure_records m rs))
    go true = refl
    go false = refl
lines-measured (next ∷ rest) n m line = go (read_line (bad_line n) m.previous line) (λ (m : Sizes). lines-measured rest (n + 1) m next)
  where
    all : List Record → Checked ℕ
    all rs = finish (measure_records m rs)

    inner : (r : Record) (c : Checked (List Record)) → then c (λ (rs : List Record). finish (measure_records (counted m r) rs)) ≡ then (then c (λ (rs : List Record). Ok (r ∷ rs))) all
    inner r (Err q) = refl
    inner r (Ok rs) = refl

    go :
        (c : Checked Record) →
        ((m : Sizes) → measure_lines (n + 1) m next rest ≡ then (read_lines (n + 1) m.previous next rest) (λ (rs : List Record). finish (measure_records m rs))) →
        then c (λ (r : Record). measure_lines (n + 1) (counted m r) next rest) ≡ then (then c (λ (r : Record). then (read_lines (n + 1) (Some r.tag) next rest) (λ (rs : List Record). Ok (r ∷ rs)))) all
    go (Err q) more = refl
    go (Ok r) more =
        more (counted m r) ∙
        ap (λ (t : Option Tag). then (read_lines (n + 1) t next rest) (λ (rs : List Record). finish (measure_records (counted m r) rs))) (next-tag m (Some r.tag) (length (text 0 r)) (length (text 1 r))) ∙
        inner r (read_lines (n + 1) (Some r.tag) next rest)

-- a whole sheet
abbrev pub measure_sheet : List ℕ → Checked ℕ
measure_sheet s = measure_lines 1 nothing (split newline s).first (split newline s).rest

pub sheet-measured : (s : List ℕ) → measure_sheet s ≡ sized (from_sheet s)
unfolding from_sheet sheet_records then
sheet-measured s = lines-measured (split newline s).rest 1 nothing (split newline s).first ∙ go (sheet_records s) refl
  where
    go : (c : Checked (List Record)) → sheet_records s ≡ c → then c (λ (rs : List Record). finish (measure_records nothing rs)) ≡ sized (then c (λ (rs : List Record). check (within_limits (sections rs)) WontFit (λ _. Ok (encode (sections rs)))))
    go (Err q) e = refl
    go (Ok rs) e = measured-records rs (read-records s rs e).2 ∙ sized-check (within_limits (sections rs)) WontFit (encode (sections rs))
