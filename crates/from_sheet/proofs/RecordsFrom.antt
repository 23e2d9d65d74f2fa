-- The lines that bytes are: the first and those after it; and those of a whole sheet that is read.
-- Assumes nothing.
use Rattle.std.specs.Prelude.{Option, Some, None, Ok, unwrap_or}
use Prim.Native.Nat.{ℕ, ◌+◌, ◌≤◌}
use mathlib.Core.Bool.{true}
use mathlib.Core.List.{List, [], ◌∷◌, map}
use mathlib.Core.Path.{◌≡◌, refl, sym, ap, ap₂, subst, ◌∙◌}
use borrow.Author.Tests.{eqb-true}
use lib.ListN.{length}
use Rattle.std.proofs.lemmas.List.{nil_from_length}
use Rattle.layout.proofs.Checked.{check-good, then-good}
use Rattle.table.specs.declared.tag.Tag.{Tag}
use Rattle.table.specs.declared.tag.Tag.TheVariants.{Pair}
use Rattle.format.specs.Encoding.{limit, encode}
use Rattle.format.specs.Records.{Record, sections}
use Rattle.format.proofs.Encoding.{limits-good}
use Rattle.sheet.specs.Fields.{newline}
use Rattle.sheet.specs.FromSheet.{bad_line, read_lines, sheet_records, from_sheet}
use Rattle.sheet.specs.Lines.{parts, split, said_by, is_ruled}
use Rattle.sheet.proofs.LinesRead.{tested}
use Rattle.sheet.proofs.SheetsRead.{read-records}
use Rattle.lines.specs.Measure.{IsFirst}
use Rattle.from_sheet.specs.Records.{tag_in, fields_of, record_of, closed_parts, records_in, sections_in, LineChecked, LinesChecked, AllChecked, AllOrdered}

-- ---- the first line, and those after it

-- a first line that a newline ends is checked, and so are those after it
pub next : (s line after : List ℕ) → IsFirst s line after → AllChecked s → LineChecked line × AllChecked after
unfolding LinesChecked
next s line after first all = rw first.is at all

pub records-next : (s line after : List ℕ) → IsFirst s line after → records_in s ≡ record_of line ∷ records_in after
unfolding closed_parts
records-next s line after first = rw first.is refl

pub records-end : (s : List ℕ) → split newline s ≡ parts s [] → records_in s ≡ []
unfolding closed_parts
records-end s is = rw is refl

-- ---- a whole sheet

read-lines :
    (rest : List (List ℕ)) (n : ℕ) (previous : Option Tag) (first : List ℕ) (rs : List Record) →
    read_lines n previous first rest ≡ Ok rs →
    (map record_of (closed_parts first rest) ≡ rs) × LinesChecked first rest
unfolding read_lines closed_parts LinesChecked
read-lines [] n previous last rs e =
    let (empty, same) = check-good _ _ _ _ e in
    (cc, nil_from_length last (eqb-true (length last) 0 empty))
read-lines (second ∷ rest) n previous first rs e =
    let (r, this, more) = then-good _ _ _ e in
    let (others, after, same) = then-good _ _ _ more in
    let (records, checked) = read-lines rest (n + 1) (Some r.tag) second others after in
    let t = tested (bad_line n) previous first r this in
    let named : tag_in first ≡ r.tag = ap (λ (o : Option Tag). unwrap_or o Pair) t.named in
    let own : record_of first ≡ r = ap (λ (t : Tag). said_by t (fields_of first)) named ∙ sym t.is in
    let all : r ∷ others ≡ rs = cc in
    (ap₂ (λ (a : Record) (l : List Record). a ∷ l) own records ∙ all, ((t.named ∙ ap Some (sym named), rw named t.made, subst (λ (r : Record). is_ruled r ≡ true) (sym own) t.ruled), checked))

pub sheet-read : (s : List ℕ) (rs : List Record) → sheet_records s ≡ Ok rs → (records_in s ≡ rs) × AllOrdered s
unfolding sheet_records
sheet-read s rs e =
    let (records, checked) = read-lines (split newline s).rest 1 None (split newline s).first rs e in
    (records, (checked, rw records (read-records s rs e).2))

-- and its payload: the sections of its lines, encoded
pub record Payload (s p : List ℕ) : Type 0 where
  pub is : p ≡ encode (sections_in s)
  pub sound : AllOrdered s
  pub few : length (sections_in s) ≤ 65535
  pub small : length p ≤ limit

pub payload-read : (s p : List ℕ) → from_sheet s ≡ Ok p → Payload s p
unfolding from_sheet
payload-read s p e =
    let (rs, read, rest) = then-good _ _ _ e in
    let (fits, same) = check-good _ _ _ _ rest in
    let (records, sound) = sheet-read s rs read in
    let (few, countable, small) = limits-good (sections rs) fits in
    let is : p ≡ encode (sections rs) = cc in
    let all : sections rs ≡ sections_in s = ap sections (sym records) in
    record { is = is ∙ ap encode all; sound = sound; few = rw (← all) few; small = rw is small }
