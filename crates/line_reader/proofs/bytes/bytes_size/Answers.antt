-- `bytes_size` meets its contract: each digit is tested in turn.
use Rattle.std.proofs.Common.{sym, ◌∙◌}
use Rattle.line_reader.proofs.SizeLaws.{pairs-are, digit-more, bytes-sized}
use Rattle.line_reader.proofs.bytes.bytes_size.Goals as goal

pub loop-byte-init : goal.loop-byte-init
loop-byte-init c = sym (pairs-are _)

pub loop-byte-preserved : goal.loop-byte-preserved
loop-byte-preserved c = rw c.is_hex_digit-good.ensures (sym (digit-more c.loop-byte.good _ c.loop-byte.byte-index c.loop-byte-test.true) ∙ c.loop-byte.invariant)

pub returns : goal.returns
returns c = c.then_some.ensures ∙ bytes-sized c.loop-byte.good _ c.loop-byte.byte-index c.loop-byte-test.false c.loop-byte.invariant
