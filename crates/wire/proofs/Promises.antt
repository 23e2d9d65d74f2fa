-- The promises of specs/Promises.antt, each from the laws of its definitions.
-- Assumes nothing.
use native.Mathlib.Omega.{arith}
use Rattle.wire.specs.Promises.{PaddingAligns, NumberReadsBack, BytesWriteBack, LengthConverts}
use Rattle.wire.proofs.LengthLaws.{terminated-wire_size, wire_size-terminated}
use Rattle.wire.proofs.NumberLaws.{read_back, write-back}
use Rattle.wire.proofs.PaddingLaws.{aligned-by-arithmetic}

pub padding-aligns : PaddingAligns
padding-aligns n = omega (arith, aligned-by-arithmetic n)

pub number-reads-back : NumberReadsBack
number-reads-back = read_back

pub bytes-write-back : BytesWriteBack
bytes-write-back = write-back

pub length-converts : LengthConverts
length-converts = (terminated-wire_size, wire_size-terminated)
