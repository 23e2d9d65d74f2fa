-- `write_name` meets its contract: the word, the number, the text and the newline are its line.
use Rattle.std.proofs.Common.{◌≡◌, ℕ, ◌+◌, ◌-◌, ◌≤◌, List, ◌++◌, length, length-append, refl, ap, arith}
use Rattle.wire.specs.Number.{u32_at}
use Rattle.layout.specs.Spans.{part}
use Rattle.format.specs.Display.{ascii, decimal}
use Rattle.sheet.specs.Fields.{escape}
use Rattle.sheet.specs.Lines.{line}
use Rattle.sheet.specs.SheetWalk.{name_at}
use Rattle.to_sheet.specs.Entry.{sheet_limit}
use Rattle.to_sheet.proofs.LineParts.{Stored, first-stored, then-stored, as-line, field, end, two_fields}
use Rattle.to_sheet.proofs.entry.write_name.Goals as goal
use Rattle.to_sheet.proofs.entry.write_name.Goals.{After-text_length-text}

-- the line's pieces, with the numbers and the place that were read
abbrev pieces : ℕ → List ℕ → List ℕ
pieces size text = ((ascii "name" ++ field (decimal size)) ++ field (escape text)) ++ end

module _ (p : List ℕ) (at size start text : ℕ) (e : size ≡ u32_at p (at + 12)) (f : start ≡ at + 16) (g : text ≡ u32_at p (at + 8) - 1) where
  is-line : line (name_at p at) ≡ pieces size (part p start text)
  unfolding line
  is-line = rw (e, f, g) (two_fields (ascii "name") (decimal (u32_at p (at + 12))) (escape (part p (at + 16) (u32_at p (at + 8) - 1))))

  -- and so it fits a sheet
  fits : (to : ℕ) → to + length (line (name_at p at)) ≤ sheet_limit → to + (4 + length (field (decimal size)) + length (field (escape (part p start text))) + 1) ≤ sheet_limit
  unfolding ascii
  fits to room =
      let long : length (pieces size (part p start text)) ≡ 4 + length (field (decimal size)) + length (field (escape (part p start text))) + 1 = simp length-append in
      omega (arith, room, ap length is-line, long)

room : (c : After-text_length-text) → c.args.to + (4 + length (field (decimal c.content_size-size.result)) + length (field (escape (part c.args.entry.payload.now c.text_start-start.result c.text_length-text.result.0))) + 1) ≤ sheet_limit
room c = fits _ _ _ _ _ c.content_size-size.ensures c.text_start-start.ensures.value c.text_length-text.ensures c.args.to c.requires

pub overflow_cast-next : goal.overflow_cast-next
overflow_cast-next c = omega (arith, room ((goal.at.overflow_cast-next c).After-text_length-text), c.write_number-next.ensures.value)

pub end_line-requires : goal.end_line-requires
end_line-requires c = omega (arith, room ((goal.at.end_line-requires c).After-text_length-text), c.write_number-next.ensures.value, c.write_text-end.ensures.value)

pub returns : goal.returns
unfolding ascii
returns c =
    let a = c.args in
    let p = a.entry.payload.now in
    let one : Stored a.output.now a.to (ascii "name") _ (a.to + 4) = first-stored c.write_bytes.ensures refl in
    let two = then-stored (field (decimal c.content_size-size.result)) one c.write_number-next.ensures.output_after c.write_number-next.ensures.value in
    let three = then-stored (field (escape (part p c.text_start-start.result c.text_length-text.result.0))) two c.write_text-end.ensures.output_after c.write_text-end.ensures.value in
    let said = is-line p a.entry.at _ _ _ c.content_size-size.ensures c.text_start-start.ensures.value c.text_length-text.ensures in
    let all = as-line said (then-stored end three c.end_line.ensures.output_after c.end_line.ensures.value) in
    record { value = all.ends; output_after = all.is }
