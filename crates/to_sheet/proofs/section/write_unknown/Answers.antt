-- `write_unknown` meets its contract: the word, the kind, the bytes and the newline are its line.
use Rattle.std.proofs.Common.{◌≡◌, ℕ, ◌+◌, ◌-◌, List, ◌++◌, length, length-append, refl, ap, ◌∙◌, arith}
use Rattle.wire.specs.Number.{u32_at}
use Rattle.layout.specs.Spans.{part}
use Rattle.format.specs.Display.{ascii, decimal}
use Rattle.sheet.specs.Fields.{hex_pairs}
use Rattle.sheet.specs.Lines.{line}
use Rattle.sheet.specs.SheetWalk.{unknown_at}
use Rattle.to_sheet.proofs.LineParts.{Stored, first-stored, then-stored, as-line, field, end, two_fields}
use Rattle.to_sheet.proofs.section.write_unknown.Goals as goal

-- the line's pieces
abbrev pieces : ℕ → List ℕ → List ℕ
pieces kind bytes = ((ascii "unknown" ++ field (decimal kind)) ++ field (hex_pairs bytes)) ++ end

is-line : (p : List ℕ) (kind at : ℕ) → line (unknown_at p kind at) ≡ pieces kind (part p (at + 8) (u32_at p at - 8))
unfolding line
is-line p kind at = two_fields (ascii "unknown") (decimal kind) (hex_pairs (part p (at + 8) (u32_at p at - 8)))

-- how long it is
long : (p : List ℕ) (kind at : ℕ) → length (line (unknown_at p kind at)) ≡ 7 + length (field (decimal kind)) + length (field (hex_pairs (part p (at + 8) (u32_at p at - 8)))) + 1
unfolding ascii
long p kind at = ap length (is-line p kind at) ∙ simp length-append

pub overflow_cast-next : goal.overflow_cast-next
overflow_cast-next c = omega (arith, c.requires, long c.args.section.payload.now c.args.kind c.args.section.at, c.write_number-next.ensures.value)

pub end_line-requires : goal.end_line-requires
end_line-requires c =
    let hex = rw c.body_size-bytes.ensures at c.write_hex-end.ensures in
    omega (arith, c.requires, long c.args.section.payload.now c.args.kind c.args.section.at, c.write_number-next.ensures.value, hex.value)

pub returns : goal.returns
unfolding ascii
returns c =
    let a = c.args in
    let p = a.section.payload.now in
    let hex = rw c.body_size-bytes.ensures at c.write_hex-end.ensures in
    let one : Stored a.output.now a.to (ascii "unknown") _ (a.to + 7) = first-stored c.write_bytes.ensures refl in
    let two = then-stored (field (decimal a.kind)) one c.write_number-next.ensures.output_after c.write_number-next.ensures.value in
    let three = then-stored (field (hex_pairs (part p (a.section.at + 8) (u32_at p a.section.at - 8)))) two hex.output_after hex.value in
    let all = as-line (is-line p a.kind a.section.at) (then-stored end three c.end_line.ensures.output_after c.end_line.ensures.value) in
    record { value = all.ends; output_after = all.is }
