-- `store_srci` meets its contract: the sections are within the limit, since the payload is.
use Rattle.std.proofs.Common.{arith}
use Rattle.format.specs.Records.{sections}
use Rattle.format.proofs.Encoding.{length-encode}
use Rattle.from_sheet.proofs.source_info.store_srci.Goals as goal

pub store_sections-sections-requires : goal.store_sections-sections-requires
store_sections-sections-requires c =
    let all = length-encode (sections c.args.records) in
    record {
      order = c.requires.order;
      few = c.requires.few;
      bound = omega (arith, all, c.requires.size_value, c.requires.size_le_limit);
    }
