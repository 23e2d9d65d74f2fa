-- `unpair` meets its contract: a turn stores the byte of a pair.
use Rattle.std.proofs.Common.{◌≡◌, ◌+◌, ◌*◌, [], ◌∷◌, ◌++◌, List, ℕ, ap, get_or, arith}
use Rattle.std.proofs.lemmas.List.{take_more, take_more_set}
use Rattle.sheet.specs.Fields.{bytes_of_pairs}
use Rattle.from_sheet.proofs.Fields.{pair}
use Rattle.from_sheet.proofs.hex.unpair.Goals as goal

pub bounds-field-i : goal.bounds-field-i
bounds-field-i c = omega (arith, (pair c.args.field.now c.loop-i.i (omega arith) c.requires.field_form).inside)

pub value-requires : goal.value-requires
value-requires c = (pair c.args.field.now c.loop-i.i (omega arith) c.requires.field_form).first

pub overflow_mul-bytes : goal.overflow_mul-bytes
overflow_mul-bytes c = let p = pair c.args.field.now c.loop-i.i (omega arith) c.requires.field_form in omega (arith, p.is, p.small, c.value.ensures)

pub bounds-field-i-in-loop-i : goal.bounds-field-i-in-loop-i
bounds-field-i-in-loop-i c = (pair c.args.field.now c.loop-i.i (omega arith) c.requires.field_form).inside

pub value-requires-in-loop-i : goal.value-requires-in-loop-i
value-requires-in-loop-i c = (pair c.args.field.now c.loop-i.i (omega arith) c.requires.field_form).second

pub overflow_add-bytes : goal.overflow_add-bytes
overflow_add-bytes c =
    let p = pair c.args.field.now c.loop-i.i (omega arith) c.requires.field_form in
    omega (arith, p.is, p.small, c.value.ensures, c.value-in-loop-i.ensures)

pub loop-i-preserved : goal.loop-i-preserved
loop-i-preserved c =
    let i = c.loop-i.i in
    let all = bytes_of_pairs c.args.field.now in
    let p = pair c.args.field.now i (omega arith) c.requires.field_form in
    let byte : 16 * c.value.result + c.value-in-loop-i.result ≡ get_or all i 0 = omega (arith, p.is, c.value.ensures, c.value-in-loop-i.ensures) in
    rw (byte, take_more_set c.loop-i.bytes i (get_or all i 0) (omega arith), take_more all i 0 (omega arith)) (ap (λ (l : List ℕ). l ++ get_or all i 0 ∷ []) c.loop-i.invariant)
