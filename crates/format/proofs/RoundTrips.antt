-- The round trips of specs/RoundTrips.antt, each proved under its name. All rest on two facts: an accepted payload is the encoding of well-formed
-- sections, with their rows (PayloadStands), and every such encoding is accepted, with these rows (PayloadRead).
-- Assumes nothing.
use Rattle.std.specs.Prelude.{Ok, Option, None, Some}
use Prim.Native.Nat.{ℕ, ◌+◌, ◌*◌, ◌/◌, ◌%◌, ◌≤◌}
use mathlib.Core.Bool.{Bool, true, false, cond}
use mathlib.Core.List.{List, [], ◌∷◌}
use mathlib.Core.Path.{◌≡◌, refl, sym, ap, ◌∙◌}
use native.Mathlib.Omega.{arith}
use borrow.Author.Tests.{eq-eqb}
use lib.ListN.{length, take, drop, length-map}
use lib.Seq.{take_at}
use Rattle.layout.specs.Checked.{Checked, check}
use Rattle.table.specs.Rows.{width, table_of, rows_of, spans_of}
use Rattle.table.specs.Tags.{tag_of, opens_section}
use Rattle.table.specs.declared.row.Row.{Row}
use Rattle.table.specs.declared.tag.Tag.{Tag}
use Rattle.table.specs.declared.tag.Tag.TheVariants.{PlainContents, PackedContents, Names, Arguments, Unknown, Content, Name, Pair}
use Rattle.layout.specs.declared.span.Span.{Span}
use Rattle.layout.proofs.BySide.{side_of-payload}
use Rattle.layout.proofs.Checked.{check-good, then-good, then-passes, is-good}
use Rattle.table.proofs.Rows.{length-table_of, rows_of-table_of, rows_of-table_of-append}
use Rattle.format.specs.Encoding.{encode, within_limits}
use Rattle.format.specs.Listing.{listed}
use Rattle.format.specs.Output.{answer, output_after}
use Rattle.format.specs.Parse.{parse}
use Rattle.format.specs.Promises.{Placed, Fits32}
use Rattle.format.specs.Read.{accepted, read_table}
use Rattle.format.specs.Resolve.{sections_of, resolve}
use Rattle.format.specs.RoundTrips.{AcceptedIsEncoded, sections_read, EncodedIsAccepted, SectionsAreUnique, RowsResolve, OwnText, TextsAreTexts, ListsSections, WritesBack, rows_kept, CallsWriteBack, NumbersFit, ReadsBack, CallsReadBack}
use Rattle.format.specs.Rules.{texts_of, check_texts, check_row, check_rows}
use Rattle.format.specs.Said.{numbers_by, said}
use Rattle.format.specs.Sections.{Section}
use Rattle.format.specs.WellFormed.{All}
use Rattle.format.specs.Write.{written, written_table, write_answer, write_output}
use Rattle.format.proofs.Answers.{held}
use Rattle.format.proofs.EncodedBytes.{encoded-bytes}
use Rattle.format.proofs.Encoded.{encoded-sections, sections-are, rows-obey, resolves, writes, rows-say}
use Rattle.format.proofs.PayloadRead.{read-payload}
use Rattle.format.proofs.Promises.{accepted-stores-bytes, rows_inside, words-fit}
use Rattle.format.proofs.PayloadStands.{payload-stands}
use Rattle.format.proofs.PlacedRows.{rows_from}
use Rattle.format.proofs.RowsSay.{Numbers, said-by-sections, sections-well-formed}
use Rattle.format.proofs.TextsOk.{text-ok}

-- ---- accepted means encoded

pub accepted-is-encoded : AcceptedIsEncoded
unfolding accepted
accepted-is-encoded p bytes e =
    let (rows, found) = is-good (parse p) e in
    let all = payload-stands p bytes rows found in
    (all.sections, all.ok, all.fit, all.is)

pub encoded-is-accepted : EncodedIsAccepted
unfolding sections_read
encoded-is-accepted ss ok fit =
    then-passes _ _ (read-payload ss ok fit) (ap {B = Checked (List Section)} (λ (l : List Section). Ok l) (encoded-sections ss []))

pub sections-are-unique : SectionsAreUnique
sections-are-unique ss ts ok ok' fit fit' e =
    let same = ap sections_read e in
    cc (encoded-is-accepted ss ok fit, encoded-is-accepted ts ok' fit')

-- ---- an accepted payload's rows

pub rows-resolve : RowsResolve
rows-resolve p edit rows bytes e =
    let all = payload-stands p bytes rows e in
    let sections = sections-are all.sections all.ok p rows all.is all.rows edit in
    resolves all.sections all.ok p rows all.is all.rows edit ∙ ap {B = Checked (List Section)} (λ (l : List Section). Ok l) (sym sections)

pub lists-sections : ListsSections
unfolding listed
lists-sections p rows bytes e = then-passes _ _ e (then-passes _ _ (rows-resolve p [] rows bytes e) refl)

-- texts that lie in the payload and pass
module _ (p : List ℕ) where
  own-texts :
      (spans : List Span) →
      All (λ (s : Span). (s.side ≡ 0) × (s.start + s.count ≤ length p)) spans →
      check_texts p [] spans ≡ Ok tt →
      All (OwnText p) spans
  unfolding check_texts
  own-texts [] placed e = tt
  own-texts (s ∷ spans) ((side, within), placed) e =
      let (done, first, rest) = then-good _ _ _ e in
      ((side, within, rw (side_of-payload p [] side) at (text-ok _ s.start s.count first)), own-texts spans placed rest)

  own-rows : (previous : Option Tag) (rows : List Row) → All (Placed p) rows → check_rows p [] previous rows ≡ Ok tt → All (λ (r : Row). All (OwnText p) (texts_of r)) rows
  unfolding check_rows check_row
  own-rows previous [] placed e = tt
  own-rows previous (r ∷ rows) (here, placed) e =
      let (done, first, rest) = then-good _ _ _ e in
      (go (opens_section (tag_of r.tag)) (check-good _ _ _ _ first).1, own-rows (tag_of r.tag) rows placed rest)
    where
      go : (section : Bool) → check_texts p [] (cond section [] (spans_of r)) ≡ Ok tt → All (OwnText p) (cond section [] (spans_of r))
      go true f = tt
      go false f = own-texts (spans_of r) here f

pub texts-are-texts : TextsAreTexts
texts-are-texts p rows bytes e =
    let all = payload-stands p bytes rows e in
    own-rows p None rows (rows_inside p rows bytes e).0 (rows-obey all.sections all.ok p rows all.is all.rows [])

pub writes-back : WritesBack
writes-back p edit rows bytes e =
    let all = payload-stands p bytes rows e in
    writes all.sections all.ok p rows all.is all.rows edit all.fit

-- a table of whole rows is written as its rows are
pub table-written : (payload edit table : List ℕ) (rows : List Row) → length table % width ≡ 0 → rows_of table ≡ rows → written_table payload edit table ≡ written payload edit rows
unfolding written_table check
table-written payload edit table rows whole e = rw (eq-eqb (length table % width) 0 whole, e)

-- the rows that reading stored are the start of the table
pub stored-rows :
    (p table : List ℕ) (rows : List Row) →
    parse p ≡ Ok rows →
    length rows ≤ length table / width →
    rows_kept p table rows ≡ table_of rows
stored-rows p table rows e h =
    let numbers : ℕ = length rows * width in
    ap (λ (l : List ℕ). take numbers l) (held p table e h).1 ∙ take_at (table_of rows) (drop numbers table) numbers (length-table_of rows)

pub calls-write-back : CallsWriteBack
unfolding write_answer write_output
calls-write-back p edit table output rows bytes e h =
    let kept : List ℕ = rows_kept p table rows in
    let start = stored-rows p table rows e h in
    let is : written_table p edit kept ≡ Ok p =
    table-written p edit kept rows (rw start (omega (arith, length-table_of rows))) (ap rows_of start ∙ rows_of-table_of rows) ∙ writes-back p edit rows bytes e in
    (ap (λ (c : Checked (List ℕ)). answer c (length output)) is, ap (λ (c : Checked (List ℕ)). output_after c output) is)

-- ---- what was written

-- the sections of rows that were written
pub record Written (payload edit q : List ℕ) (rows : List Row) : Type 0 where
  pub checked : check_rows payload edit None rows ≡ Ok tt
  pub fit : within_limits (sections_of payload edit rows) ≡ true
  pub is : encode (sections_of payload edit rows) ≡ q

pub written-good : (payload edit q : List ℕ) (rows : List Row) → written payload edit rows ≡ Ok q → Written payload edit q rows
unfolding written resolve
written-good payload edit q rows e =
    let (ss, resolved, after) = then-good _ _ _ e in
    let (done, checked, found) = then-good _ _ _ resolved in
    let same : sections_of payload edit rows ≡ ss = cc in
    let fit = check-good _ _ _ _ after in
    record { checked = checked; fit = rw same fit.0; is = rw same (cc fit.1) }

pub reads-back : ReadsBack
reads-back payload edit q rows bytes bytes' fit e =
    let told = written-good payload edit q rows e in
    let ss : List Section = sections_of payload edit rows in
    let ok = sections-well-formed payload edit bytes bytes' rows fit told.checked in (
      rw (← told.is) (encoded-bytes ss ok),
      rows_from 8 ss,
      rw (← told.is) (read-payload ss ok told.fit),
      rows-say ss ok q (rows_from 8 ss) told.is refl [] ∙ said-by-sections payload edit rows told.checked,
    )

numbers_fit : (t : Option Tag) (r : Row) → Fits32 r → Numbers t r
unfolding numbers_by
numbers_fit (Some PlainContents) r h = (h.a, tt)
numbers_fit (Some PackedContents) r h = (h.a, (h.d, (h.e, tt)))
numbers_fit (Some Names) r h = tt
numbers_fit (Some Arguments) r h = tt
numbers_fit (Some Unknown) r h = (h.a, tt)
numbers_fit (Some Content) r h = tt
numbers_fit (Some Name) r h = (h.c, tt)
numbers_fit (Some Pair) r h = tt
numbers_fit None r h = tt

pub all_numbers_fit : (rows : List Row) → All Fits32 rows → All NumbersFit rows
all_numbers_fit [] h = tt
all_numbers_fit (r ∷ rows) (h, rest) = (numbers_fit (tag_of r.tag) r h, all_numbers_fit rows rest)

pub calls-read-back : CallsReadBack
unfolding write_answer write_output written_table
calls-read-back payload edit table output lent count bytes bytes' words e room =
    let (q, made, size, within, stored) = accepted-stores-bytes (written_table payload edit table) output count e in
    let out : take count (write_output payload edit table output) ≡ q = ap (λ (l : List ℕ). take count l) stored ∙ take_at q (drop count output) count size in
    let rows : List Row = rows_of table in
    let (whole, again, found, same) = reads-back payload edit q rows bytes bytes' (all_numbers_fit rows (words-fit table words)) (check-good _ _ _ _ made).1 in
    let many : length again ≡ length rows = sym (length-map again (said q [])) ∙ ap length same ∙ length-map rows (said payload edit) in
    let (told, left) = held q lent found (omega arith) in
    let kept : take (length rows) (rows_of (read_table q lent)) ≡ again =
    ap (λ (l : List ℕ). take (length rows) (rows_of l)) left ∙ rw rows_of-table_of-append (take_at again (rows_of (drop (length again * width) lent)) (length rows) many) in
    rw (out, kept) (whole, told ∙ ap Ok many, same)
