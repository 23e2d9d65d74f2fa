-- The loop of `store_sections`: the sections left, stored from here on, give the output that all sections give, and with those counted they are all.
use Rattle.std.proofs.Common.{None, ◌≡◌, ◌+◌, true, length}
use mathlib.Core.List.{flat_map}
use Rattle.format.specs.Encoding.{encode_section}
use Rattle.format.specs.Records.{in_order, sections}
use Rattle.format.proofs.Storing.{Left}
use Rattle.from_sheet.proofs.source_info.store_sections.Given as goal

abbrev pub invariant-loop-record : goal.invariant-loop-record
invariant-loop-record l = record {
  order : in_order None l.records ≡ true;
  counted : l.count + length (sections l.records) ≡ length (sections l.initial.records);
  left : Left l.initial.output 8 (flat_map encode_section (sections l.initial.records)) l.output l.to (flat_map encode_section (sections l.records));
}

abbrev pub decreases-loop-record : goal.decreases-loop-record
decreases-loop-record l = length l.records
