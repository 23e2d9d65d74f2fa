-- `new` meets its contract: the sections of an accepted payload are good, and no more than a number of 16 bits can count.
use Rattle.std.proofs.Common.{arith}
use Rattle.accepted.proofs.Accepted.{whole, as_many}
use Rattle.accepted.proofs.sections.Sections.new.Goals as goal

pub invariant_of-result : goal.invariant_of-result
invariant_of-result c = rw c.section_count.ensures (whole c.args.payload.bytes.now c.args.payload.accepted)

pub returns-clause-len_bound : goal.returns-clause-len_bound
returns-clause-len_bound c = omega (arith, as_many c.args.payload.bytes.now c.section_count.result 8)
