-- `frames::close_section` meets its contract: the three fields make the section header, of which the size takes its low bytes.
use Rattle.std.proofs.Common.{ℕ, ap, arith, refl, ◌+◌, ◌-◌, ◌∙◌, ◌≡◌}
use mathlib.Core.List.{append-nil}
use Rattle.wire.specs.Padding.{padding, aligned}
use Rattle.wire.proofs.NumberLaws.{bytes_of-low, fields-stored}
use Rattle.layout.specs.Kinds.{kind_number}
use Rattle.format.specs.Encoding.{u16}
use Rattle.frames.specs.Frame.{section_header, framed}
use Rattle.frames.proofs.close_section.Goals as goal

pub returns-clause-output_after : goal.returns-clause-output_after
unfolding framed aligned
returns-clause-output_after c =
    let a = c.args in
    let zeros : c.padding_length-zeros.result ≡ padding (a.end - a.start) = c.padding_length-zeros.ensures ∙ ap padding c.saturating_sub-length.ensures in
    let size : ℕ = aligned (a.end - a.start) in
    let number : ℕ = kind_number a.kind in
    let fields = fields-stored size 2 0 (u16 number) a.output.now a.start (a.start + 4) (a.start + 6) refl (omega arith) in
    cc (bytes_of-low 4 size, fields, append-nil (section_header size number))
