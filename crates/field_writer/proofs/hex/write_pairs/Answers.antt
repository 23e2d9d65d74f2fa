-- `write_pairs` meets its contract: the pairs that fit, and the one that the output ends within.
use Rattle.std.proofs.Common.{◌≡◌, ◌<◌, ◌≤◌, ◌+◌, ◌*◌, ℕ, List, sym, ap, ◌∙◌, length, take, arith}
use lib.Seq.{take-length}
use Rattle.std.proofs.lemmas.List.Edits.{sets}
use Rattle.wire.proofs.Sets.{sets-past}
use Rattle.sheet.specs.Fields.{hex_pairs}
use Rattle.field_writer.proofs.Fields.{pairs-fit, pairs-cut}
use Rattle.field_writer.proofs.hex.write_pairs.Goals as goal

pub returns-then-output-at : goal.returns-then-output-at
returns-then-output-at c = sym (sets-past (hex_pairs c.args.bytes.now) c.args.output.now c.args.at (omega arith))

pub returns-then-whole-bytes : goal.returns-then-whole-bytes
returns-then-whole-bytes c =
    let bytes = c.args.bytes.now in
    let output = c.args.output.now in
    let at = c.args.at in
    let w = c.min-whole.result in
    let fits : at + 2 * w ≤ length output = omega (arith, c.min-whole.ensures) in
    let ends : length output < at + 2 * w + 2 = omega (arith, c.min-whole.ensures) in
    let fit = pairs-fit bytes c.fill_pairs.new.to output at w _ c.fill_pairs.ensures (omega arith) (omega arith) (omega arith) in
    c.write_array.ensures ∙ rw c.pair.ensures (pairs-cut bytes _ output at w c.if-whole-bytes.true ends fit)

pub returns-else-whole-bytes : goal.returns-else-whole-bytes
returns-else-whole-bytes c =
    let bytes = c.args.bytes.now in
    let output = c.args.output.now in
    let at = c.args.at in
    let w = c.min-whole.result in
    let fits : at + 2 * w ≤ length output = omega (arith, c.min-whole.ensures) in
    let all : w ≡ length bytes = omega (arith, c.min-whole.ensures) in
    let fit = pairs-fit bytes c.fill_pairs.new.to output at w _ c.fill_pairs.ensures (omega arith) (omega arith) (omega arith) in
    fit ∙ ap (λ (s : List ℕ). sets output at (hex_pairs s)) (ap (λ (n : ℕ). take n bytes) all ∙ take-length bytes)
