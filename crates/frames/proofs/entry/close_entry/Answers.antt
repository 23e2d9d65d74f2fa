-- `frames::entry::close_entry` meets its contract: the three fields make the start of the header, of which the sizes take their low bytes.
use Rattle.std.proofs.Common.{ℕ, ap, arith, refl, ◌+◌, ◌-◌, ◌∙◌, ◌≡◌}
use Rattle.wire.specs.Padding.{padding, aligned}
use Rattle.wire.proofs.NumberLaws.{bytes_of-low, fields-stored}
use Rattle.layout.specs.Kinds.{header_size}
use Rattle.format.specs.Encoding.{u32}
use Rattle.frames.specs.Frame.{entry_framed}
use Rattle.frames.proofs.entry.close_entry.Goals as goal

pub returns-clause-output_after : goal.returns-clause-output_after
unfolding entry_framed aligned
returns-clause-output_after c =
    let a = c.args in
    let size : ℕ = a.end - a.start + 1 in
    let text : ℕ = a.end - (a.start + header_size a.kind) + 1 in
    let length : c.saturating_sub-length.result + 1 ≡ size = omega arith in
    let many : c.saturating_sub-text.result + 1 ≡ text = omega arith in
    let zeros : c.padding_length-zeros.result ≡ padding size = c.padding_length-zeros.ensures ∙ ap padding length in
    let fields = fields-stored (aligned size) 4 0 (u32 text) a.output.now a.start (a.start + 4) (a.start + 8) refl (omega arith) in
    cc (bytes_of-low 4 (aligned size), bytes_of-low 4 text, fields)
