-- `display::line::write_unknown` meets its contract: the five stores are the line.
use Rattle.std.proofs.Common.{arith}
use Rattle.std.proofs.Math.ListN.{length-append}
use Rattle.format.specs.Display.{ascii, decimal}
use Rattle.display.proofs.LineLaws.{unknown-stored, unknown-length}
use Rattle.display.proofs.line.write_unknown.Goals as goal

pub returns-clause-value : goal.returns-clause-value
unfolding ascii
returns-clause-value c =
    let a = c.args in
    omega (arith, unknown-length a.place a.kind a.bytes, length-append (decimal a.place) (ascii "] Unknown(0x"), length-append (decimal a.bytes) (ascii " bytes\n"))

pub returns-clause-output_after : goal.returns-clause-output_after
unfolding ascii
returns-clause-output_after c =
    let a = c.args in
    rw (c.write_number.ensures.output_after, c.write_bytes-2.ensures, c.write_hex.ensures, c.write_number-next.ensures.output_after, c.write_bytes.ensures)
    (unknown-stored a.place a.kind a.bytes a.output.now a.at _ _ _ _ (omega arith) c.write_number-next.ensures.value (omega arith) (omega arith))
