-- `body` meets its contract: what a section that is good holds ends within it.
use Rattle.std.proofs.Common.{◌∙◌, sym, arith}
use Rattle.layout.proofs.Checked.{is-good}
use Rattle.format.specs.Parse.{parse_section, content_row_at, name_row_at}
use Rattle.format.proofs.SectionLaws.{contents-good, plain-good, names-good}
use Rattle.format.proofs.WalkLaws.{arguments-walk}
use Rattle.accepted.proofs.Entered.{entries-good}
use Rattle.accepted.proofs.checked_section.CheckedSection.body.Goals as goal

pub invariant_of-result : goal.invariant_of-result
unfolding parse_section
invariant_of-result c =
    let section = c.args.self in
    let p = section.payload.now in
    let (rs, found) = is-good _ (rw c.in-SourceContents.is at section.good) in
    let (framed, stored, flags, low) = contents-good p section.at _ rs found in
    let held = plain-good p section.at rs (rw (sym c.compression.ensures ∙ c.in-None.is) at stored) in
    (section.limited, rw c.content_count.ensures (entries-good p 12 content_row_at _ (omega (arith, framed.within, section.within)) _ _ held.rest held.found))

pub invariant_of-result-in-SourceNames : goal.invariant_of-result-in-SourceNames
unfolding parse_section
invariant_of-result-in-SourceNames c =
    let section = c.args.self in
    let p = section.payload.now in
    let (rs, found) = is-good _ (rw c.in-SourceNames.is at section.good) in
    let (framed, held, flags) = names-good p section.at _ rs found in
    (section.limited, rw c.name_count.ensures (entries-good p 16 (name_row_at p) _ (omega (arith, framed.within, section.within)) _ _ held.rest held.found))

pub invariant_of-result-in-Arguments : goal.invariant_of-result-in-Arguments
unfolding parse_section
invariant_of-result-in-Arguments c =
    let section = c.args.self in
    let (rs, found) = is-good _ (rw c.in-Arguments.is at section.good) in
    (section.limited, rw c.pair_count.ensures (omega (arith, (arguments-walk section.payload.now section.at _ rs found).1, section.within)))
