-- `write` meets its contract: the sections and the main header are the copy.
use Rattle.std.proofs.Common.{◌+◌, length, sym, ◌∙◌}
use mathlib.Core.List.{flat_map}
use Rattle.wire.specs.Number.{u16_at}
use Rattle.format.specs.CopyWalk.{copy_at, copy_of, copy}
use Rattle.format.specs.Parse.{kind_at}
use Rattle.format.specs.Walk.{places_from, places}
use Rattle.frames.proofs.PayloadClosed.{header-stored}
use Rattle.accepted.proofs.Accepted.{known-many}
use Rattle.public_copy.specs.Joined.{joined}
use Rattle.public_copy.proofs.CopyLaws.{copy-known, copy-long, copied-all}
use Rattle.public_copy.proofs.source_info.PublicCopyJob.write.Goals as goal

pub returns : goal.returns
unfolding copy copy_of places
returns c =
    let p = c.args.payload.bytes.now in
    let count = u16_at p 6 in
    let sections = flat_map (copy_at p) (places_from p count 8) in
    let many = c.copy_sections-end.ensures.sections_value ∙ known-many p (copy_at p) (λ at. copy-known p (kind_at p at) at) count 8 in
    let made = rw (copied-all p count 8) at c.copy_sections-end.ensures in
    record {
      value = made.value ∙ sym (copy-long sections);
      output_after =
          rw (c.close_payload.ensures, made.output_after, many, made.value)
          (header-stored (8 + length (joined sections)) (length sections) (joined sections) c.args.output.now);
    }
