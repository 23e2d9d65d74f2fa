-- `number` meets its contract: the field at the index is a number.
use Rattle.std.proofs.Common.{ℕ, ap, ◌∙◌}
use Rattle.std.specs.Prelude.{Option}
use Rattle.std.specs.Option.{unwrap_or}
use Rattle.format.specs.Records.{number}
use Rattle.line_reader.specs.Numbers.{number_told}
use Rattle.from_sheet.proofs.Said.{number-read}
use Rattle.from_sheet.proofs.record.LineRecord.number.Goals as goal

pub returns : goal.returns
returns c =
    c.unwrap_or.ensures ∙ ap (λ (o : Option ℕ). unwrap_or o 0) (c.read_number.ensures ∙ ap number_told c.field.ensures) ∙
    number-read _ _ c.self.invariant.0 _ (rw (← c.self.view_is) at c.requires) ∙ ap (number c.args.index) c.self.view_is
