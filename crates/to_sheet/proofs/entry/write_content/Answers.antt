-- `write_content` meets its contract: the word, the text and the newline are its line.
use Rattle.std.proofs.Common.{◌≡◌, ℕ, ◌+◌, ◌-◌, List, ◌++◌, length, length-append, refl, ap, arith}
use Rattle.wire.specs.Number.{u32_at}
use Rattle.layout.specs.Spans.{part}
use Rattle.format.specs.Display.{ascii}
use Rattle.sheet.specs.Fields.{escape}
use Rattle.sheet.specs.Lines.{line}
use Rattle.sheet.specs.SheetWalk.{content_at}
use Rattle.to_sheet.proofs.LineParts.{Stored, first-stored, then-stored, as-line, field, end, one_field}
use Rattle.to_sheet.proofs.entry.write_content.Goals as goal

-- the line's pieces, with the place and the length that were read
abbrev pieces : List ℕ → List ℕ
pieces text = (ascii "content" ++ field (escape text)) ++ end

is-line : (p : List ℕ) (at start text : ℕ) → start ≡ at + 12 → text ≡ u32_at p (at + 8) - 1 → line (content_at p at) ≡ pieces (part p start text)
unfolding line
is-line p at start text e f = rw (e, f) (one_field (ascii "content") (escape (part p (at + 12) (u32_at p (at + 8) - 1))))

long : (text : List ℕ) → length (pieces text) ≡ 7 + length (field (escape text)) + 1
unfolding ascii
long text = simp length-append

pub end_line-requires : goal.end_line-requires
end_line-requires c =
    let a = c.args in
    let said = is-line a.entry.payload.now a.entry.at _ _ c.text_start-start.ensures.value c.text_length-text.ensures in
    omega (arith, c.requires, ap length said, long (part a.entry.payload.now c.text_start-start.result c.text_length-text.result.0), c.write_text-end.ensures.value)

pub returns : goal.returns
unfolding ascii
returns c =
    let a = c.args in
    let p = a.entry.payload.now in
    let one : Stored a.output.now a.to (ascii "content") _ (a.to + 7) = first-stored c.write_bytes.ensures refl in
    let two = then-stored (field (escape (part p c.text_start-start.result c.text_length-text.result.0))) one c.write_text-end.ensures.output_after c.write_text-end.ensures.value in
    let said = is-line p a.entry.at _ _ c.text_start-start.ensures.value c.text_length-text.ensures in
    let all = as-line said (then-stored end two c.end_line.ensures.output_after c.end_line.ensures.value) in
    record { value = all.ends; output_after = all.is }
