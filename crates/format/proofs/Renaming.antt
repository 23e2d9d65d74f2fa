-- Renaming one file, as specs/RoundTrips.antt states it: a row that is set changes what the rows say at its index alone, and a name's row may be
-- set to any text.
-- Assumes nothing.
use Rattle.std.specs.Prelude.{Ok, Option, Some, None}
use Prim.Native.Nat.{ℕ, zero, suc, ◌+◌}
use mathlib.Core.Bool.{true, and-eq-true_iff}
use mathlib.Core.List.{List, [], ◌∷◌}
use mathlib.Core.Path.{◌≡◌, refl, sym, ap, ◌∙◌}
use native.Mathlib.Omega.{arith}
use borrow.Author.Tests.{le-leb}
use lib.ListN.{length, get_or, set}
use Rattle.std.proofs.lemmas.List.{map-set}
use Rattle.wire.specs.Padding.{all_zero}
use Rattle.layout.specs.Checked.{Checked}
use Rattle.layout.specs.Spans.{side_of, span_bytes, inside}
use Rattle.layout.specs.declared.span.Span.{Span}
use Rattle.table.specs.Rows.{no_row, rows_of, store_row, name_row, spans_by}
use Rattle.table.proofs.Rows.{length-table_of, rows_of-table_of, length-store_row, rows_of-store_row}
use Rattle.table.specs.Tags.{tag_of}
use Rattle.table.specs.declared.row.Row.{Row}
use Rattle.table.specs.declared.tag.Tag.{Tag}
use Rattle.table.specs.declared.tag.Tag.TheVariants.{Name}
use Rattle.layout.proofs.BySide.{side_of-payload}
use Rattle.layout.proofs.Checked.{after-good, check-good, then-good, check-passes, then-passes}
use Rattle.format.specs.Output.{answer, output_after}
use Rattle.format.specs.Promises.{Fits32}
use Rattle.format.specs.Resolve.{resolve}
use Rattle.format.specs.RoundTrips.{rows_kept, renamed, Renames, RenameIsWritten, OwnTextIsWritten, CallsRename}
use Rattle.format.specs.Rules.{tag_rule, all_inside, obeys, texts_of, check_texts, check_row, check_rows}
use Rattle.format.specs.Said.{Said, numbers_by, said}
use Rattle.format.specs.WellFormed.{All}
use Rattle.format.specs.Write.{written, written_table, write_answer, write_output}
use Rattle.format.proofs.Encoded.{rows-obey, rows-say}
use Rattle.format.proofs.PayloadStands.{payload-stands}
use Rattle.format.proofs.Promises.{rows_inside}
use Rattle.format.proofs.RoundTrips.{table-written, stored-rows, reads-back, all_numbers_fit}
use Rattle.format.proofs.RowsByTag.{all-at, Every}
use Rattle.format.proofs.RowsSay.{Numbers}
use Rattle.format.proofs.TextsOk.{ok-text}

-- ---- a row that is set

every_set : (P : Option Tag → Row → Type 0) (rows : List Row) (i : ℕ) (new : Row) → Every P rows → P (tag_of new.tag) new → Every P (set rows i new)
every_set P [] i new h k = tt
every_set P (r ∷ rows) zero new h k = (k, h.1)
every_set P (r ∷ rows) (suc i) new h k = (h.0, every_set P rows i new h.1 k)

-- it may have any row's place that has its tag, where it obeys the rules wherever that one does
module _ (p edit : List ℕ) (new : Row) (texts : check_texts p edit (texts_of new) ≡ Ok tt) where
  set-passes :
      (rows : List Row) (i : ℕ) (previous : Option Tag) →
      tag_of (get_or rows i no_row).tag ≡ tag_of new.tag →
      ((previous : Option Tag) → obeys p edit previous (get_or rows i no_row) ≡ true → obeys p edit previous new ≡ true) →
      check_rows p edit previous rows ≡ Ok tt →
      check_rows p edit previous (set rows i new) ≡ Ok tt
  unfolding check_rows check_row
  set-passes [] i previous tag same e = e
  set-passes (r ∷ rows) zero previous tag same e =
      let (done, first, rest) = then-good _ _ _ e in
      then-passes _ _ (check-passes _ _ _ (same previous (check-good _ _ _ _ first).0) texts) (rw (← tag) rest)
  set-passes (r ∷ rows) (suc i) previous tag same e =
      let (done, first, rest) = then-good _ _ _ e in
      then-passes _ _ first (set-passes rows i (tag_of r.tag) tag same rest)

-- ---- what is written

pub renames : Renames
unfolding said numbers_by spans_by
renames p edit q rows i text bytes bytes' e f =
    let new : Row = name_row text (get_or rows i no_row).c in
    let fit : All Fits32 rows = (rows_inside p rows bytes e).1 in
    let numbers = every_set Numbers rows i new (all_numbers_fit rows fit) ((all-at Fits32 no_row rows fit (omega arith) i).c, tt) in
    let (whole, again, found, same) = reads-back p edit q (renamed rows i text) bytes bytes' numbers f in
    let all = payload-stands p bytes rows e in
    let say = rows-say all.sections all.ok p rows all.is all.rows in
    (whole, again, found, same ∙ map-set (said p edit) rows i new ∙ ap (λ (l : List Said). set l i (said p edit new)) (say edit ∙ sym (say [])))

-- ---- what refuses it

name-obeys :
    (p edit : List ℕ) (old : Row) (text : Span) (size : ℕ) →
    tag_of old.tag ≡ Some Name →
    inside p edit text ≡ true →
    (previous : Option Tag) → obeys p edit previous old ≡ true → obeys p edit previous (name_row text size) ≡ true
unfolding obeys tag_rule spans_by all_inside all_zero
name-obeys p edit old text size tag within previous h =
    let told = simp and-eq-true_iff at (rw tag at h) in
    rw (told.0.0, within)

pub rename-is-written : RenameIsWritten
unfolding written resolve spans_by check_texts
rename-is-written p edit rows i text bytes e tag within ok =
    let size : ℕ = (get_or rows i no_row).c in
    let all = payload-stands p bytes rows e in
    let before = rows-obey all.sections all.ok p rows all.is all.rows edit in
    let passes = then-passes _ _ (ok-text (side_of text.side p edit) text.start text.count (span_bytes p edit text) refl ok) refl in
    let after : check_rows p edit None (renamed rows i text) ≡ Ok tt =
    set-passes p edit (name_row text size) passes rows i None tag (name-obeys p edit (get_or rows i no_row) text size tag within) before in
    after-good _ _ (then-passes _ _ after refl)

pub own-text-is-written : OwnTextIsWritten
own-text-is-written p edit rows i text bytes e tag (side, within, ok) =
    let known = le-leb text.side 1 (omega arith) in
    let lies = side_of-payload p edit side in
    rename-is-written p edit rows i text bytes e tag (rw (known, lies, le-leb (text.start + text.count) (length p) within)) (rw lies ok)

-- ---- the calls

pub calls-rename : CallsRename
unfolding write_answer write_output
calls-rename p edit table output rows i text e h =
    let kept : List ℕ = rows_kept p table rows in
    let start = stored-rows p table rows e h in
    let same : rows_of kept ≡ rows = ap rows_of start ∙ rows_of-table_of rows in
    let new : Row = name_row text (get_or (rows_of kept) i no_row).c in
    let edited : List ℕ = store_row kept i new in
    let is : written_table p edit edited ≡ written p edit (renamed rows i text) =
    table-written p edit edited (renamed rows i text) (rw (length-store_row kept i new, start) (omega (arith, length-table_of rows))) (rows_of-store_row kept i new ∙ rw same) in
    (ap (λ (c : Checked (List ℕ)). answer c (length output)) is, ap (λ (c : Checked (List ℕ)). output_after c output) is)
