-- `close` meets its contract: by its tag a record begins a section whose parts `frames` closes, with the numbers that the record has.
use Rattle.std.proofs.Common.{◌+◌, ◌-◌}
use Rattle.format.specs.Records.{begun}
use Rattle.from_sheet.proofs.SectionParts.{closes, plain-parts, packed-parts, names-parts, arguments-parts, unknown-parts}
use Rattle.from_sheet.proofs.section.close.Goals as goal

pub returns-in-PlainContents-clause-framed : goal.returns-in-PlainContents-clause-framed
unfolding begun
returns-in-PlainContents-clause-framed c =
    rw (← c.in-PlainContents.ensures)
    (λ rs q. closes (plain-parts c.args.record.now rs) c.args.output.now c.args.start c.args.end (c.args.end - (c.args.start + 28))
    (rw (c.number-field.ensures, q) at c.close_contents.ensures.output_after))

pub returns-in-PackedContents-clause-framed : goal.returns-in-PackedContents-clause-framed
unfolding begun
returns-in-PackedContents-clause-framed c =
    rw (← c.in-PackedContents.ensures)
    (λ rs q. closes (packed-parts c.args.record.now rs) c.args.output.now c.args.start c.args.end (c.args.end - (c.args.start + 28))
    (rw (c.number.ensures, c.number-in-PackedContents.ensures, c.number-in-PackedContents-2.ensures) at c.close_contents-in-PackedContents.ensures.output_after))

pub returns-in-Names-clause-framed : goal.returns-in-Names-clause-framed
unfolding begun
returns-in-Names-clause-framed c =
    rw (← c.in-Names.ensures)
    (λ rs q. closes (names-parts c.args.record.now rs) c.args.output.now c.args.start c.args.end (c.args.end - (c.args.start + 18)) (rw q at c.close_names.ensures.output_after))

pub returns-in-Arguments-clause-framed : goal.returns-in-Arguments-clause-framed
unfolding begun
returns-in-Arguments-clause-framed c =
    rw (← c.in-Arguments.ensures)
    (λ rs q. closes (arguments-parts c.args.record.now rs) c.args.output.now c.args.start c.args.end (c.args.end - (c.args.start + 20)) (rw q at c.close_arguments.ensures.output_after))

pub returns-in-Unknown-clause-framed : goal.returns-in-Unknown-clause-framed
unfolding begun
returns-in-Unknown-clause-framed c =
    rw (← c.in-Unknown.ensures)
    (λ rs q. closes (unknown-parts c.args.record.now rs) c.args.output.now c.args.start c.args.end (c.args.end - (c.args.start + 8)) (rw c.kind.ensures at c.close_section.ensures.output_after))
