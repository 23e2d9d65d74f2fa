-- `print::write_printed` meets its contract: what is printed of the answer, over what the call left, is the outcome.
use Rattle.std.proofs.Common.{arith}
use Rattle.format.proofs.PrintLaws.{longer-printed, answer-printed}
use Rattle.print.proofs.write_printed.Goals as goal

pub returns-then-input-gt-MOST : goal.returns-then-input-gt-MOST
returns-then-input-gt-MOST g c =
    let e = c.write_longer.ensures in
    let printed = longer-printed g.J.Job.made c.args.input.now c.args.output.now (omega arith) c.if-input-gt-MOST.true (e.value, e.output_after) in
    record { value = printed.0; output_after = printed.1 }

pub returns : goal.returns
returns g c =
    let call = c.run-answer.ensures in
    let told = c.write_answer.ensures in
    let printed = answer-printed g.J.Job.made c.args.input.now c.args.output.now (omega arith) (omega (arith, c.if-input-gt-MOST.false)) (call.value, call.output_after) (told.value, told.output_after) in
    record { value = printed.0; output_after = printed.1 }
