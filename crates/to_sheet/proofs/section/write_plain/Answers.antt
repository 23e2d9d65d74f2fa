-- `write_plain` meets its contract: the word, the number and the newline are its line.
use Rattle.std.proofs.Common.{◌≡◌, ℕ, ◌+◌, List, ◌++◌, length, length-append, refl, ap, arith}
use Rattle.wire.specs.Number.{u32_at}
use Rattle.format.specs.Display.{ascii, decimal}
use Rattle.sheet.specs.Lines.{line}
use Rattle.sheet.specs.SheetWalk.{plain_at}
use Rattle.to_sheet.proofs.LineParts.{Stored, first-stored, then-stored, as-line, field, end, one_field}
use Rattle.to_sheet.proofs.section.write_plain.Goals as goal

-- the line's pieces, with the number that was read
abbrev pieces : ℕ → List ℕ
pieces header = (ascii "contents" ++ field (decimal header)) ++ end

is-line : (p : List ℕ) (at header : ℕ) → header ≡ u32_at p (at + 8) → line (plain_at p at) ≡ pieces header
unfolding line
is-line p at header e = rw e (one_field (ascii "contents") (decimal (u32_at p (at + 8))))

long : (header : ℕ) → length (pieces header) ≡ 8 + length (field (decimal header)) + 1
unfolding ascii
long header = simp length-append

pub end_line-requires : goal.end_line-requires
end_line-requires c =
    let said = is-line c.args.section.payload.now c.args.section.at _ c.header_field-field.ensures in
    omega (arith, c.requires, ap length said, long c.header_field-field.result, c.write_number-end.ensures.value)

pub returns : goal.returns
unfolding ascii
returns c =
    let a = c.args in
    let one : Stored a.output.now a.to (ascii "contents") _ (a.to + 8) = first-stored c.write_bytes.ensures refl in
    let two = then-stored (field (decimal c.header_field-field.result)) one c.write_number-end.ensures.output_after c.write_number-end.ensures.value in
    let all = as-line (is-line a.section.payload.now a.section.at _ c.header_field-field.ensures) (then-stored end two c.end_line.ensures.output_after c.end_line.ensures.value) in
    record { value = all.ends; output_after = all.is }
