-- The loop of `text_size`: what the rest tells after the size so far is what all of it tells.
use Rattle.std.proofs.Common.{◌≡◌, ◌≤◌, ◌+◌, length}
use Rattle.line_reader.specs.Sizes.{text_told}
use Rattle.line_reader.proofs.text.text_size.Given as goal

abbrev pub invariant-loop-rest : goal.invariant-loop-rest
invariant-loop-rest l = record { small : l.size + length l.rest ≤ length l.field; told : text_told l.size l.rest ≡ text_told 0 l.field }

abbrev pub decreases-loop-rest : goal.decreases-loop-rest
decreases-loop-rest l = length l.rest
