-- `field_writer::write_hex` meets its contract.
use Rattle.std.proofs.Common.{arith, ap, length}
use Rattle.layout.specs.Spans.{part}
use Rattle.sheet.proofs.SheetSize.{length-hex_pairs}
use Rattle.field_writer.proofs.write_hex.Goals as goal

pub returns-clause-value : goal.returns-clause-value
returns-clause-value c =
    omega (arith, ap length c.part_of-part.ensures, length-hex_pairs (part c.args.bytes.now c.args.start c.args.count))
