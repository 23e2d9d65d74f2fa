-- `kind` meets its contract: the first field is a number, of 16 bits.
use Rattle.std.proofs.Common.{ℕ, ap, ◌∙◌, arith}
use Rattle.std.specs.Prelude.{Option}
use Rattle.std.specs.Option.{unwrap_or}
use Rattle.format.specs.Records.{Record, number}
use Rattle.line_reader.specs.Numbers.{number_told}
use Rattle.sheet.specs.Lines.{said_by}
use Rattle.from_sheet.specs.Records.{fields_of}
use Rattle.from_sheet.proofs.Said.{number-read, kind_fits}
use Rattle.from_sheet.proofs.record.LineRecord.kind.Goals as goal

pub overflow_cast-result : goal.overflow_cast-result
overflow_cast-result c =
    let is = ap (λ (r : Record). r.tag) c.self.view_is ∙ c.requires in
    let value = c.unwrap_or.ensures ∙ ap (λ (o : Option ℕ). unwrap_or o 0) (c.read_number.ensures ∙ ap number_told c.field.ensures) ∙
    number-read c.self.inside.tag (fields_of c.self.inside.line.line.now) c.self.invariant.0 0 (rw is (omega arith)) in
    omega (arith, value, kind_fits (said_by c.self.inside.tag (fields_of c.self.inside.line.line.now)) is c.self.invariant.1)

pub returns : goal.returns
returns c =
    let is = ap (λ (r : Record). r.tag) c.self.view_is ∙ c.requires in
    c.unwrap_or.ensures ∙ ap (λ (o : Option ℕ). unwrap_or o 0) (c.read_number.ensures ∙ ap number_told c.field.ensures) ∙
    number-read c.self.inside.tag (fields_of c.self.inside.line.line.now) c.self.invariant.0 0 (rw is (omega arith)) ∙ ap (number 0) c.self.view_is
