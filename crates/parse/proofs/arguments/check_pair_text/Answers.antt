-- `check_pair_text` meets its contract: a run of plain bytes that a NUL ends is a text.
use Rattle.std.proofs.Common.{ap, sym, arith}
use Rattle.format.proofs.PairLaws.{text-plain}
use Rattle.parse.specs.Outcome.{maybe_text}
use Rattle.parse.proofs.arguments.check_pair_text.Goals as goal

pub returns-then-part-stop-eq0 : goal.returns-then-part-stop-eq0
returns-then-part-stop-eq0 c =
    let stop = c.plain_end-stop in
    sym (ap maybe_text (text-plain c.args.part.payload.now c.args.at c.args.part.end stop.result stop.ensures.bounds.0 (omega arith) c.args.part.within stop.ensures.plain (omega arith)))
