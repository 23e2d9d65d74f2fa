-- `fill_srci` meets its contract: a turn takes the next section that is left, and stores its rows.
use Rattle.std.proofs.Common.{◌≡◌, ◌++◌, ℕ, ◌≤◌, List, length, length-append, is_ok, true, refl, sym, ap, ◌∙◌, arith}
use mathlib.Core.List.{flat_map}
use Rattle.wire.specs.Number.{u16_at}
use Rattle.layout.proofs.Checked.{is-good}
use Rattle.format.specs.Encoding.{limit}
use Rattle.format.specs.Parse.{parse}
use Rattle.format.specs.Walk.{places, walk, walk_section}
use Rattle.format.proofs.RowCount.{parse-count}
use Rattle.format.proofs.SectionLaws.{parse-good}
use Rattle.format.proofs.WalkLaws.{parse-walk}
use Rattle.read.specs.Store.{rows_of, store_rows}
use Rattle.read.proofs.Stored.{store_rows-append}
use Rattle.accepted.proofs.Accepted.{taken-walked}
use Rattle.accepted.specs.Sections.{sections}
use Rattle.read.proofs.fill.fill_srci.Goals as goal

-- the rows of all sections are those of the walk, and fewer than the limit
all-rows : (p : List ℕ) → flat_map rows_of (sections p) ≡ walk p
unfolding walk places
all-rows p = taken-walked p walk_section (u16_at p 6) 8

few : (p : List ℕ) → is_ok (parse p) ≡ true → length (walk p) ≤ limit
few p accepted =
    let (rs, found) = is-good (parse p) accepted in
    omega (arith, (parse-good p rs found).0, parse-count p rs found, ap length (parse-walk p rs found))

pub loop-section-init : goal.loop-section-init
loop-section-init c =
    rw (c.into_iter-section-iterator.ensures.into_iter_gives, c.new-section-items.ensures.value, all-rows c.args.payload.bytes.now)
    (record { ends = omega arith; rest = refl })

pub fill_section-index-requires : goal.fill_section-index-requires
unfolding flat_map
fill_section-index-requires c =
    let section = c.in-Some.section in
    let here = walk_section section.payload.now section.kind section.at in
    let split : flat_map rows_of c.loop-section.section-iterator ≡ here ++ flat_map rows_of c.next.new.self = ap (flat_map rows_of) c.in-Some.ensures.steps in
    omega (arith, c.loop-section.invariant.ends, few c.args.payload.bytes.now c.args.payload.accepted, ap length split, length-append here (flat_map rows_of c.next.new.self))

pub loop-section-preserved : goal.loop-section-preserved
unfolding flat_map
loop-section-preserved c =
    let l = c.loop-section in
    let so = l.invariant in
    let w = c.fill_section-index.ensures in
    let section = c.in-Some.section in
    let here = walk_section section.payload.now section.kind section.at in
    let split : flat_map rows_of l.section-iterator ≡ here ++ flat_map rows_of c.next.new.self = ap (flat_map rows_of) c.in-Some.ensures.steps in
    let step = store_rows-append l.rows l.index here (flat_map rows_of c.next.new.self) in
    record {
      ends = omega (arith, so.ends, w.value, ap length split, length-append here (flat_map rows_of c.next.new.self));
      rest = rw (w.value, w.rows_after) (sym step) ∙ ap (store_rows l.rows l.index) (sym split) ∙ so.rest;
    }

pub returns : goal.returns
unfolding store_rows flat_map
returns c = rw c.in-None.ensures.steps.0 at c.loop-section.invariant.rest
