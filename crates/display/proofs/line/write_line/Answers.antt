-- `display::line::write_line` meets its contract: what is stored is the line of the summary.
use Rattle.std.proofs.Common.{◌++◌}
use Rattle.format.specs.Display.{ascii, decimal}
use Rattle.display.specs.Summary.{records_line}
use Rattle.display.proofs.LineLaws.{packed-line, names-line}
use Rattle.wire.proofs.Sets.{sets-joined}
use Rattle.display.proofs.line.write_line.Goals as goal

pub returns-in-Zlib-clause-output_after : goal.returns-in-Zlib-clause-output_after
unfolding ascii
returns-in-Zlib-clause-output_after c =
    let r = c.write_records-next.ensures in
    let a = c.args in
    rw (c.in-Zlib.is, c.write_number.ensures.output_after, r.output_after, ← packed-line a.place c.in-Zlib.count c.in-Zlib.bytes)
    (sets-joined (records_line a.place (ascii "] SourceContents: ") c.in-Zlib.count (ascii " zlib file(s), ")) (decimal c.in-Zlib.bytes ++ ascii " bytes\n") a.output.now a.at _ r.value)

pub returns-in-SourceNames-clause-output_after : goal.returns-in-SourceNames-clause-output_after
unfolding ascii
returns-in-SourceNames-clause-output_after c =
    rw (c.in-SourceNames.is, ← names-line c.args.place c.in-SourceNames.count) c.write_records-in-SourceNames.ensures.output_after
