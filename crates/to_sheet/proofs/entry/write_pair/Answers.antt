-- `write_pair` meets its contract: the word, the two texts and the newline are its line.
use Rattle.std.proofs.Common.{◌≡◌, ℕ, ◌+◌, ◌≤◌, List, ◌++◌, length, length-append, drop, refl, ap, arith}
use Rattle.find.specs.Nul.{until_nul}
use Rattle.wire.specs.Length.{wire_size}
use Rattle.layout.specs.Spans.{part}
use Rattle.format.specs.Display.{ascii}
use Rattle.sheet.specs.Fields.{escape}
use Rattle.sheet.specs.Lines.{line}
use Rattle.accepted.specs.Entries.{placed}
use Rattle.to_sheet.specs.Entry.{sheet_limit, pair_line}
use Rattle.to_sheet.proofs.LineParts.{Stored, first-stored, then-stored, as-line, field, end, two_fields}
use Rattle.to_sheet.proofs.entry.write_pair.Goals as goal

-- the line's pieces, with the lengths that were found
abbrev pieces : List ℕ → List ℕ → List ℕ
pieces name value = ((ascii "pair" ++ field (escape name)) ++ field (escape value)) ++ end

module _ (p : List ℕ) (at name start value : ℕ) (e : name ≡ until_nul (drop at p)) (f : start ≡ at + wire_size name) (g : value ≡ until_nul (drop (at + wire_size name) p)) where
  is-line : pair_line (placed p at) ≡ pieces (part p at name) (part p start value)
  unfolding line
  is-line =
      let there : at + wire_size (until_nul (drop at p)) ≡ start = rw (← e, f) refl in
      rw (there, ← e, ap (λ k. until_nul (drop k p)) f, ← g) (two_fields (ascii "pair") (escape (part p at name)) (escape (part p start value)))

  -- and so it fits a sheet
  fits : (to : ℕ) → to + length (pair_line (placed p at)) ≤ sheet_limit → to + (4 + length (field (escape (part p at name))) + length (field (escape (part p start value))) + 1) ≤ sheet_limit
  unfolding ascii
  fits to room =
      let long : length (pieces (part p at name) (part p start value)) ≡ 4 + length (field (escape (part p at name))) + length (field (escape (part p start value))) + 1 = simp length-append in
      omega (arith, room, ap length is-line, long)

pub overflow_cast-next : goal.overflow_cast-next
overflow_cast-next c =
    let pair = c.args.pair in
    omega (arith, fits _ _ _ _ _ pair.name_is c.value_start-start.ensures.value pair.value_is c.args.to c.requires, c.write_text-next.ensures.value)

pub end_line-requires : goal.end_line-requires
end_line-requires c =
    let pair = c.args.pair in
    omega (arith, fits _ _ _ _ _ pair.name_is c.value_start-start.ensures.value pair.value_is c.args.to c.requires, c.write_text-next.ensures.value, c.write_text-end.ensures.value)

pub returns : goal.returns
unfolding ascii
returns c =
    let a = c.args in
    let p = a.pair.payload.now in
    let one : Stored a.output.now a.to (ascii "pair") _ (a.to + 4) = first-stored c.write_bytes.ensures refl in
    let two = then-stored (field (escape (part p a.pair.at a.pair.name.0))) one c.write_text-next.ensures.output_after c.write_text-next.ensures.value in
    let three = then-stored (field (escape (part p c.value_start-start.result a.pair.value.0))) two c.write_text-end.ensures.output_after c.write_text-end.ensures.value in
    let said = is-line p a.pair.at _ _ _ a.pair.name_is c.value_start-start.ensures.value a.pair.value_is in
    let all = as-line said (then-stored end three c.end_line.ensures.output_after c.end_line.ensures.value) in
    record { value = all.ends; output_after = all.is }
