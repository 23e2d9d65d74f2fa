-- `write` meets its contract: a turn takes the next section that is left, and stores its lines.
use Rattle.std.proofs.Common.{◌≡◌, ℕ, ◌≤◌, List, length, is_ok, true, ap, ◌∙◌, arith}
use mathlib.Core.List.{flat_map}
use native.Mathlib.Nat.{zero-add}
use Rattle.wire.specs.Number.{u16_at}
use Rattle.layout.proofs.Checked.{is-good}
use Rattle.format.specs.Parse.{parse}
use Rattle.format.specs.Walk.{places}
use Rattle.format.specs.WellFormed.{Bytes}
use Rattle.format.proofs.SectionLaws.{parse-good}
use Rattle.format.proofs.Storing.{none-stored, item-within, item-stored, all-stored}
use Rattle.accepted.proofs.Accepted.{made-walked}
use Rattle.accepted.specs.Sections.{sections}
use Rattle.sheet.specs.Lines.{line}
use Rattle.sheet.specs.SheetWalk.{section_records, sheet_lines}
use Rattle.sheet.proofs.SheetFound.{sheet-by-walk}
use Rattle.sheet.proofs.SheetSize.{sheet-size}
use Rattle.to_sheet.specs.Entry.{sheet_limit, lines_of}
use Rattle.to_sheet.proofs.source_info.SheetJob.write.Goals as goal

-- the lines of all sections are the sheet
all-lines : (p : List ℕ) → flat_map lines_of (sections p) ≡ sheet_lines p
unfolding sheet_lines places
all-lines p = made-walked p section_records line (u16_at p 6) 8

-- which is at most three and a half times as long as the limit
small : (p : List ℕ) → Bytes p → is_ok (parse p) ≡ true → length (flat_map lines_of (sections p)) ≤ sheet_limit
small p bytes accepted =
    let (rows, found) = is-good (parse p) accepted in
    let size = sheet-size p (sheet_lines p) bytes (sheet-by-walk.finds p rows bytes found) in
    omega (arith, size, (parse-good p rows found).0, ap length (all-lines p))

pub loop-section-init : goal.loop-section-init
loop-section-init c = none-stored (c.into_iter-section-iterator.ensures.into_iter_gives ∙ c.new-section-items.ensures.value)

pub write_section-to-requires : goal.write_section-to-requires
write_section-to-requires c =
    let payload = c.args.payload in
    omega (arith, small payload.bytes.now payload.are_bytes payload.accepted, item-within c.loop-section.invariant c.in-Some.ensures.steps)

pub loop-section-preserved : goal.loop-section-preserved
loop-section-preserved c =
    let w = c.write_section-to.ensures in
    item-stored c.loop-section.invariant c.in-Some.ensures.steps w.value w.output_after

pub overflow_cast-result : goal.overflow_cast-result
overflow_cast-result c =
    let payload = c.args.payload in
    let (ends, stored) = all-stored c.loop-section.invariant c.in-None.ensures.steps.0 in
    omega (arith, small payload.bytes.now payload.are_bytes payload.accepted, ends)

pub returns : goal.returns
returns c =
    let (ends, stored) = all-stored c.loop-section.invariant c.in-None.ensures.steps.0 in
    rw (← all-lines c.args.payload.bytes.now) (record { value = ends ∙ zero-add _; output_after = stored })
