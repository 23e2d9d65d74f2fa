-- The loop of `copy_sections`: what is left of the sections that are left is to store, and those of them whose kind is known are to count.
use Rattle.std.proofs.Common.{◌≡◌, ◌+◌}
use Rattle.format.proofs.Storing.{LeftOf}
use Rattle.accepted.specs.Sections.{sections}
use Rattle.public_copy.specs.Joined.{copied}
use Rattle.public_copy.proofs.CopyLaws.{known_count}
use Rattle.public_copy.proofs.source_info.copy_sections.Given as goal

abbrev pub invariant-loop-section : goal.invariant-loop-section
invariant-loop-section l =
    LeftOf copied l.fn.output 8 (sections l.payload.bytes.now) l.output l.to l.section-iterator
    × (l.sections + known_count l.section-iterator ≡ known_count (sections l.payload.bytes.now))
