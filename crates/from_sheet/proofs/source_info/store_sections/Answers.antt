-- `store_sections` meets its contract: a turn stores a section, and where no record is left, all are stored.
use Rattle.std.proofs.Common.{None, ◌≡◌, [], List, sym, ap, ◌∙◌, length, arith}
use mathlib.Core.List.{flat_map}
use Rattle.format.specs.Encoding.{encode_section}
use Rattle.format.specs.Records.{Record, in_order, sections}
use Rattle.format.proofs.Storing.{left-next, left-none}
use Rattle.from_sheet.specs.Section.{section_of}
use Rattle.from_sheet.proofs.SectionBegun.{first-within}
use Rattle.from_sheet.proofs.source_info.store_sections.Goals as goal

pub store_section-to-requires : goal.store_section-to-requires
store_section-to-requires c =
    let r = c.in-Some.record in
    let rs = c.next.new.self in
    let order = sym (ap (in_order None) c.in-Some.ensures.steps) ∙ c.loop-record.invariant.order in
    let within = first-within r rs order in
    let all = ap (λ (l : List Record). length (flat_map encode_section (sections l))) c.in-Some.ensures.steps in
    record {
      order = order;
      bound = omega (arith, within, all, c.loop-record.invariant.left.ends);
    }

pub loop-record-preserved : goal.loop-record-preserved
unfolding flat_map
loop-record-preserved c =
    let r = c.in-Some.record in
    let first = encode_section (section_of r.tag r c.next.new.self) in
    let all = ap sections c.in-Some.ensures.steps ∙ c.store_section-to.ensures.sections in
    record {
      order = c.store_section-to.ensures.order_after;
      counted = omega (arith, ap length all);
      left = left-next first (flat_map encode_section (sections c.store_section-to.new.records)) (ap (flat_map encode_section) all) c.loop-record.invariant.left c.store_section-to.ensures.to_value c.store_section-to.ensures.output_after;
    }

pub returns : goal.returns
unfolding sections flat_map
returns c =
    let none : sections c.loop-record.records ≡ [] = ap sections c.in_default.ensures.steps.0 in
    let (there, stored) = left-none (ap (flat_map encode_section) none) c.loop-record.invariant.left in
    record { value = omega (arith, ap length none); output_after = stored }
