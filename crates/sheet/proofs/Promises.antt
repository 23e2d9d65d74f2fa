-- The promises of specs/Promises.antt on sheets and payloads, each under its name.
-- Assumes nothing.
use Rattle.std.specs.Prelude.{Ok}
use Prim.Native.Nat.{ℕ}
use mathlib.Core.Bool.{true}
use mathlib.Core.List.{List, [], ◌∷◌, flat_map}
use mathlib.Core.Path.{◌≡◌, refl, sym, ap, ◌∙◌}
use lib.ListN.{length, take, drop}
use lib.Seq.{take_at}
use Rattle.layout.specs.Checked.{Checked}
use Rattle.layout.proofs.Checked.{after-fault, check-good, check-passes, then-good, then-passes, is-good}
use Rattle.table.specs.declared.row.Row.{Row}
use Rattle.format.specs.Encoding.{encode, within_limits}
use Rattle.format.specs.Output.{answer, output_after}
use Rattle.format.specs.Parse.{parse}
use Rattle.format.specs.Read.{accepted}
use Rattle.format.specs.Records.{Record, records, sections}
use Rattle.format.specs.Secrecy.{AcceptedPayload}
use Rattle.format.specs.Sections.{Section}
use Rattle.format.specs.WellFormed.{Bytes, All, WellFormed}
use Rattle.format.proofs.Encoded.{resolves}
use Rattle.format.proofs.EncodedBytes.{encoded-bytes}
use Rattle.format.proofs.EarlyFaults.{reading-refuses}
use Rattle.format.proofs.PayloadRead.{read-payload}
use Rattle.format.proofs.PayloadStands.{payload-stands}
use Rattle.format.proofs.Promises.{accepted-stores-bytes}
use Rattle.format.proofs.Records.{Shaped, sections-of-records, records-of-sections}
use Rattle.format.proofs.RecordsOk.{Good, Whole, sections-ok, records-ok, records-order}
use Rattle.format.proofs.RefusedCalls.{refused-call}
use Rattle.format.specs.RefusedCalls.{OfReading}
use Rattle.sheet.specs.FromSheet.{from_sheet, from_sheet_answer, from_sheet_output}
use Rattle.sheet.specs.Lines.{line}
use Rattle.sheet.specs.Promises.{OutAndBack, OneSheetOnly, SheetsDiffer, PayloadsDiffer, CallsOutAndBack, CallsOneSheetOnly, ToSheetRefuses}
use Rattle.sheet.specs.ToSheet.{sheet, to_sheet, to_sheet_answer, to_sheet_output}
use Rattle.sheet.proofs.SheetsRead.{records-read, read-records}

-- ---- the sheet of an accepted payload

-- a payload that is the encoding of sections, and their sheet
pub record Sheeted (p : List ℕ) : Type 0 where
  pub ss : List Section
  pub ok : All WellFormed ss
  pub fit : within_limits ss ≡ true
  pub is : encode ss ≡ p
  pub made : to_sheet p ≡ Ok (sheet ss)

pub sheeted : (p : List ℕ) (rows : List Row) → Bytes p → parse p ≡ Ok rows → Sheeted p
unfolding to_sheet
sheeted p rows bytes e =
    let all = payload-stands p bytes rows e in
    record {
      ss = all.sections;
      ok = all.ok;
      fit = all.fit;
      is = all.is;
      made = then-passes _ _ e (then-passes _ _ (resolves all.sections all.ok p rows all.is all.rows []) refl);
    }

pub accepted-sheeted : (p : List ℕ) → AcceptedPayload p → Sheeted p
unfolding accepted
accepted-sheeted p (bytes, e) =
    let (rows, found) = is-good (parse p) e in
    sheeted p rows bytes found

-- the sheet of sections is read as their encoding
sheet-read : (ss : List Section) → All WellFormed ss → within_limits ss ≡ true → from_sheet (sheet ss) ≡ Ok (encode ss)
unfolding from_sheet sheet
sheet-read ss ok fit =
    let found = records-read (records ss) (records-order ss _) (records-ok ss ok) in
    then-passes _ _ found (rw (sections-of-records ss) (check-passes _ _ _ fit refl))

-- and so as the payload
sheet-back : (p : List ℕ) (h : Sheeted p) → from_sheet (sheet h.ss) ≡ Ok p
sheet-back p h = sheet-read h.ss h.ok h.fit ∙ ap Ok h.is

pub out-and-back : OutAndBack
out-and-back p all =
    let h = accepted-sheeted p all in
    (sheet h.ss, h.made, sheet-back p h)

-- a payload that has a sheet is accepted, and this is the sheet of its sections
pub made-sheeted : (p s : List ℕ) → Bytes p → to_sheet p ≡ Ok s → (h : Sheeted p) × (sheet h.ss ≡ s)
unfolding to_sheet
made-sheeted p s bytes e =
    let (rows, found, rest) = then-good _ _ _ e in
    let h = sheeted p rows bytes found in
    let same : Ok (sheet h.ss) ≡ Ok s = sym h.made ∙ e in
    (h, cc)

made-back : (p s : List ℕ) → Bytes p → to_sheet p ≡ Ok s → from_sheet s ≡ Ok p
made-back p s bytes e =
    let (h, is) = made-sheeted p s bytes e in
    ap from_sheet (sym is) ∙ sheet-back p h

-- ---- the payload of an accepted sheet

-- the sheet of an encoding
encoded-sheet : (ss : List Section) → All WellFormed ss → within_limits ss ≡ true → AcceptedPayload (encode ss) × (to_sheet (encode ss) ≡ Ok (sheet ss))
unfolding to_sheet accepted
encoded-sheet ss ok fit =
    let found = read-payload ss ok fit in
    ((encoded-bytes ss ok, rw found), then-passes _ _ found (then-passes _ _ (resolves ss ok (encode ss) _ refl refl []) refl))

wholes : (rs : List Record) → All Whole rs → All Shaped rs × All Good rs
wholes [] h = (tt, tt)
wholes (r ∷ rs) ((s, o), hs) = let (ss, os) = wholes rs hs in ((s, ss), (o, os))

pub one-sheet-only : OneSheetOnly
unfolding from_sheet sheet
one-sheet-only s p e =
    let (rs, found, rest) = then-good _ _ _ e in
    let (fit, same) = check-good _ _ _ _ rest in
    let (lines, whole, order) = read-records s rs found in
    let (shaped, oks) = wholes rs whole in
    let ss : List Section = sections rs in
    let ok : All WellFormed ss = sections-ok rs oks in
    let is : encode ss ≡ p = cc in
    let (all, made) = encoded-sheet ss ok fit in
    let shows : sheet ss ≡ s = ap (flat_map line) (records-of-sections rs order shaped) ∙ lines in
    (rw is at all, ap to_sheet (sym is) ∙ made ∙ ap Ok shows)

pub sheets-differ : SheetsDiffer
sheets-differ s t p e f = cc ((one-sheet-only s p e).1, (one-sheet-only t p f).1)

pub payloads-differ : PayloadsDiffer
payloads-differ p q s bytes every e f = cc (made-back p s bytes e, made-back q s every f)

-- ---- said of the calls

-- the bytes that an accepted call stored
stored : (made : Checked (List ℕ)) (output : List ℕ) (count : ℕ) → answer made (length output) ≡ Ok count → made ≡ Ok (take count (output_after made output))
stored made output count e =
    let (bytes, is, long, room, after) = accepted-stores-bytes made output count e in
    is ∙ ap Ok (sym (ap (take count) after ∙ take_at bytes (drop count output) count long))

pub calls-out-and-back : CallsOutAndBack
unfolding to_sheet_answer to_sheet_output from_sheet_answer from_sheet_output
calls-out-and-back p output again count bytes e =
    let writes = made-back p (take count (output_after (to_sheet p) output)) bytes (stored (to_sheet p) output count e) in
    (ap (λ (c : Checked (List ℕ)). answer c (length again)) writes, ap (λ (c : Checked (List ℕ)). output_after c again) writes)

pub calls-one-sheet-only : CallsOneSheetOnly
unfolding to_sheet_answer to_sheet_output from_sheet_answer from_sheet_output
calls-one-sheet-only s output again count e =
    let (all, shows) = one-sheet-only s (take count (output_after (from_sheet s) output)) (stored (from_sheet s) output count e) in
    (all, ap (λ (c : Checked (List ℕ)). answer c (length again)) shows, ap (λ (c : Checked (List ℕ)). output_after c again) shows)

pub to-sheet-refuses : ToSheetRefuses
unfolding to_sheet_answer to_sheet
to-sheet-refuses p room refusal bytes e =
    refused-call (parse p) (to_sheet p) OfReading (reading-refuses p) (λ r f. after-fault _ _ f) (λ rs f. let h = sheeted p rs bytes f in (sheet h.ss, h.made)) room refusal e
