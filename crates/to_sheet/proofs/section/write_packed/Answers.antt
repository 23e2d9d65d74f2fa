-- `write_packed` meets its contract: the word, three numbers, the bytes and the newline are its line.
use Rattle.std.proofs.Common.{◌≡◌, ℕ, ◌+◌, ◌≤◌, List, ◌++◌, length, length-append, refl, ap, arith}
use Rattle.wire.specs.Number.{u32_at}
use Rattle.layout.specs.Spans.{part}
use Rattle.format.specs.Display.{ascii, decimal}
use Rattle.sheet.specs.Fields.{hex_pairs}
use Rattle.sheet.specs.Lines.{line}
use Rattle.sheet.specs.SheetWalk.{packed_at}
use Rattle.to_sheet.specs.Entry.{sheet_limit}
use Rattle.to_sheet.proofs.LineParts.{Stored, first-stored, then-stored, as-line, field, end, four-fields}
use Rattle.to_sheet.proofs.section.write_packed.Goals as goal
use Rattle.to_sheet.proofs.section.write_packed.Goals.{After-stored_size-size}

-- the line's pieces
abbrev pieces : ℕ → ℕ → ℕ → List ℕ → List ℕ
pieces header count uncompressed bytes = ((((ascii "packed" ++ field (decimal header)) ++ field (decimal count)) ++ field (decimal uncompressed)) ++ field (hex_pairs bytes)) ++ end

-- how long they are
long : (header count uncompressed : ℕ) (bytes : List ℕ) → length (pieces header count uncompressed bytes) ≡ 6 + length (field (decimal header)) + length (field (decimal count)) + length (field (decimal uncompressed)) + length (field (hex_pairs bytes)) + 1
unfolding ascii
long header count uncompressed bytes = simp length-append

-- the numbers that were read are those of the line
module _
    (p : List ℕ) (at header count uncompressed size : ℕ)
    (e : header ≡ u32_at p (at + 8)) (f : count ≡ u32_at p (at + 24)) (g : uncompressed ≡ u32_at p (at + 20)) (h : size ≡ u32_at p (at + 16))
  where
    is-line : line (packed_at p at) ≡ pieces header count uncompressed (part p (at + 28) size)
    unfolding line
    is-line = rw (e, f, g, h) (four-fields (ascii "packed") (decimal (u32_at p (at + 8))) (decimal (u32_at p (at + 24))) (decimal (u32_at p (at + 20))) (hex_pairs (part p (at + 28) (u32_at p (at + 16)))))

    -- and so it fits a sheet
    fits :
        (to : ℕ) → to + length (line (packed_at p at)) ≤ sheet_limit →
        to + (6 + length (field (decimal header)) + length (field (decimal count)) + length (field (decimal uncompressed)) + length (field (hex_pairs (part p (at + 28) size))) + 1) ≤ sheet_limit
    fits to room = omega (arith, room, ap length is-line, long header count uncompressed (part p (at + 28) size))

room :
    (c : After-stored_size-size) →
    c.args.to + (6 + length (field (decimal c.header_field-field.result)) + length (field (decimal c.content_count-count.result)) + length (field (decimal c.uncompressed_size-uncompressed.result)) + length (field (hex_pairs (part c.args.section.payload.now (c.args.section.at + 28) c.stored_size-size.result))) + 1) ≤ sheet_limit
room c = fits c.args.section.payload.now c.args.section.at _ _ _ _ c.header_field-field.ensures c.content_count-count.ensures c.uncompressed_size-uncompressed.ensures c.stored_size-size.ensures c.args.to c.requires

pub overflow_cast-first : goal.overflow_cast-first
overflow_cast-first c = omega (arith, room ((goal.at.overflow_cast-first c).After-stored_size-size), c.write_number-first.ensures.value)

pub overflow_cast-second : goal.overflow_cast-second
overflow_cast-second c = omega (arith, room ((goal.at.overflow_cast-second c).After-stored_size-size), c.write_number-first.ensures.value, c.write_number-second.ensures.value)

pub overflow_cast-third : goal.overflow_cast-third
overflow_cast-third c = omega (arith, room ((goal.at.overflow_cast-third c).After-stored_size-size), c.write_number-first.ensures.value, c.write_number-second.ensures.value, c.write_number-third.ensures.value)

pub end_line-requires : goal.end_line-requires
end_line-requires c = omega (arith, room ((goal.at.end_line-requires c).After-stored_size-size), c.write_number-first.ensures.value, c.write_number-second.ensures.value, c.write_number-third.ensures.value, c.write_hex-end.ensures.value)

pub returns : goal.returns
unfolding ascii
returns c =
    let a = c.args in
    let p = a.section.payload.now in
    let one : Stored a.output.now a.to (ascii "packed") _ (a.to + 6) = first-stored c.write_bytes.ensures refl in
    let two = then-stored (field (decimal c.header_field-field.result)) one c.write_number-first.ensures.output_after c.write_number-first.ensures.value in
    let three = then-stored (field (decimal c.content_count-count.result)) two c.write_number-second.ensures.output_after c.write_number-second.ensures.value in
    let four = then-stored (field (decimal c.uncompressed_size-uncompressed.result)) three c.write_number-third.ensures.output_after c.write_number-third.ensures.value in
    let five = then-stored (field (hex_pairs (part p (a.section.at + 28) c.stored_size-size.result))) four c.write_hex-end.ensures.output_after c.write_hex-end.ensures.value in
    let said = is-line p a.section.at _ _ _ _ c.header_field-field.ensures c.content_count-count.ensures c.uncompressed_size-uncompressed.ensures c.stored_size-size.ensures in
    let all = as-line said (then-stored end five c.end_line.ensures.output_after c.end_line.ensures.value) in
    record { value = all.ends; output_after = all.is }
