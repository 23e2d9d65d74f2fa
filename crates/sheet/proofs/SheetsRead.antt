-- Sheets: the lines of records are read as the records, and a sheet that is read as records is their lines.
-- Assumes nothing.
use Rattle.std.specs.Prelude.{Option, Some, None, Ok}
use Prim.Native.Nat.{ℕ, ◌+◌}
use mathlib.Core.Bool.{true, and-eq-true_iff}
use mathlib.Core.List.{List, [], ◌∷◌, ◌++◌, flat_map, append_assoc}
use mathlib.Core.Path.{◌≡◌, refl, ap₂, ◌∙◌}
use borrow.Author.Tests.{eqb-true}
use lib.ListN.{length}
use Rattle.std.proofs.lemmas.List.{nil_from_length}
use Rattle.layout.specs.Checked.{check}
use Rattle.layout.proofs.Checked.{check-good, then-good, then-passes}
use Rattle.table.specs.declared.tag.Tag.{Tag}
use Rattle.format.specs.Records.{Record, is_placed, in_order}
use Rattle.format.specs.WellFormed.{All}
use Rattle.format.proofs.RecordsOk.{Whole}
use Rattle.sheet.specs.Fields.{newline}
use Rattle.sheet.specs.FromSheet.{bad_line, read_lines, sheet_records}
use Rattle.sheet.specs.Lines.{line, Parts, split, read_line}
use Rattle.sheet.proofs.LinesRead.{body, body-within, line_read, tested, read_whole, read_again}
use Rattle.sheet.proofs.Splitting.{Free, following, closed-split, split-joined, split-free}

-- a line and what follows it
pub line-then : (r : Record) (s : List ℕ) → line r ++ s ≡ body r ++ newline ∷ s
unfolding line
line-then r s = simp append_assoc

-- ---- from records to a sheet

lines-read :
    (rs : List Record) (n : ℕ) (previous : Option Tag) →
    in_order previous rs ≡ true →
    All Whole rs →
    (let p : Parts = split newline (flat_map line rs) in
    read_lines n previous p.first p.rest ≡ Ok rs)
unfolding in_order flat_map
lines-read [] n previous order oks = unfold read_lines split check in refl
lines-read (r ∷ rs) n previous order (ok, oks) =
    let (here, rest) = (and-eq-true_iff (is_placed previous r.tag) (in_order (Some r.tag) rs)).0 order in
    let after = lines-read rs (n + 1) (Some r.tag) rest oks in
    go (line_read r ok (bad_line n) previous here) after
  where
    s : List ℕ
    s = flat_map line rs

    go :
        read_line (bad_line n) previous (body r) ≡ Ok r →
        read_lines (n + 1) (Some r.tag) (split newline s).first (split newline s).rest ≡ Ok rs →
        read_lines n previous (split newline (line r ++ s)).first (split newline (line r ++ s)).rest ≡ Ok (r ∷ rs)
    go this after =
        rw (line-then r s, closed-split newline (body r) s (body-within r ok))
        (unfold read_lines in then-passes _ _ this (then-passes _ _ after refl))

pub records-read : (rs : List Record) → in_order None rs ≡ true → All Whole rs → sheet_records (flat_map line rs) ≡ Ok rs
unfolding sheet_records
records-read rs order oks = lines-read rs 1 None order oks

-- ---- from a sheet to records

-- what is known of records that some parts were read as
record Read (previous : Option Tag) (first : List ℕ) (rest : List (List ℕ)) (rs : List Record) : Type 0 where
  lines : flat_map line rs ≡ first ++ following newline rest
  whole : All Whole rs
  order : in_order previous rs ≡ true

read-lines :
    (rest : List (List ℕ)) (n : ℕ) (previous : Option Tag) (first : List ℕ) (rs : List Record) →
    read_lines n previous first rest ≡ Ok rs →
    Free newline first →
    All (Free newline) rest →
    Read previous first rest rs
unfolding read_lines flat_map in_order
read-lines [] n previous last rs e free frees =
    let (empty, same) = check-good _ _ _ _ e in
    let nothing = nil_from_length last (eqb-true (length last) 0 empty) in
    let records : rs ≡ [] = cc in
    rw (records, nothing) (record { lines = refl; whole = tt; order = refl })
read-lines (next ∷ rest) n previous first rs e free (k, ks) =
    let (r, this, more) = then-good _ _ _ e in
    let (others, after, same) = then-good _ _ _ more in
    let h = read-lines rest (n + 1) (Some r.tag) next others after k ks in
    let records : rs ≡ r ∷ others = cc in
    let again = read_again (bad_line n) previous first r this free in
    rw records (
    record {
      lines = line-then r (flat_map line others) ∙ ap₂ (λ (a b : List ℕ). a ++ newline ∷ b) again h.lines;
      whole = (read_whole (bad_line n) previous first r this, h.whole);
      order = rw ((tested (bad_line n) previous first r this).placed) h.order;
    }
    )

pub read-records : (s : List ℕ) (rs : List Record) → sheet_records s ≡ Ok rs → (flat_map line rs ≡ s) × All Whole rs × (in_order None rs ≡ true)
unfolding sheet_records
read-records s rs e =
    let p : Parts = split newline s in
    let (free, frees) = split-free newline s in
    let h = read-lines p.rest 1 None p.first rs e free frees in
    (h.lines ∙ split-joined newline s, h.whole, h.order)
