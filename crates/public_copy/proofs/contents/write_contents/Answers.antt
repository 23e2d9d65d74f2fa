-- `write_contents` meets its contract: the frame around empty entries is plain contents, and around nothing packed ones.
use Rattle.std.proofs.Common.{◌≡◌, ◌+◌, ◌-◌, ◌*◌, length, ap, ◌∙◌, arith}
use Rattle.wire.specs.Padding.{aligned}
use Rattle.wire.proofs.PaddingLaws.{le-aligned}
use Rattle.std.proofs.lemmas.List.Edits.{sets}
use Rattle.public_copy.proofs.ContentsLaws.{stored, length-empties, copy-long, copy-closed}
use Rattle.public_copy.proofs.contents.write_contents.Goals as goal
use Rattle.public_copy.proofs.contents.write_contents.Goals.{Joined-compression, in-None, in-Zlib}

pub write_entries-end-requires : goal.write_entries-end-requires
write_entries-end-requires c =
    let bytes = length (stored c.args.compression c.args.count) in
    let many : bytes ≡ 16 * c.args.count = rw c.in-None.is (length-empties c.args.count) in
    omega (arith, c.requires, copy-long c.args.compression c.args.count, le-aligned (28 + bytes), many)

-- what is stored before the headers are, and where it ends
filled :
    (c : goal.Joined-compression) →
    (c.match-compression.end ≡ c.args.to + 28 + length (stored c.args.compression c.args.count))
    × (c.match-compression.output ≡ sets c.args.output.now (c.args.to + 28) (stored c.args.compression c.args.count))
filled c =
    elim c.match-compression.branch [
      | in-None w ↦
          let w₂ = w.write_entries-end.ensures in
          rw w.in-None.is (omega (arith, w.end-is, w₂.value, length-empties c.args.count), w.output-is ∙ w₂.output_after)
      | in-Zlib w ↦ rw w.in-Zlib.is (omega (arith, w.end-is), w.output-is)
    ]

pub returns-clause-value : goal.returns-clause-value
returns-clause-value c =
    let (end, output) = filled ((goal.at.returns-clause-value c).Joined-compression) in
    let size : c.match-compression.end - c.args.to ≡ 28 + length (stored c.args.compression c.args.count) = omega arith in
    omega (arith, c.close_contents.ensures.value, copy-long c.args.compression c.args.count, ap aligned size)

pub returns-clause-output_after : goal.returns-clause-output_after
returns-clause-output_after c =
    let (end, output) = filled ((goal.at.returns-clause-output_after c).Joined-compression) in
    c.close_contents.ensures.output_after ∙ rw output (copy-closed c.args.compression c.args.count c.args.to end c.args.output.now)
