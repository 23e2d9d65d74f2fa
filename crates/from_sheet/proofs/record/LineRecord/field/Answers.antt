-- `field` meets its contract: the field at the index is one, and says a text of the record.
use Rattle.std.proofs.Common.{sym}
use Rattle.from_sheet.proofs.Said.{shown-made, text-said}
use Rattle.from_sheet.proofs.record.LineRecord.field.Goals as goal

pub returns-clause-shown : goal.returns-clause-shown
returns-clause-shown c =
    rw (← c.self.view_is, c.field.ensures)
    (shown-made _ _ c.self.invariant.0 _ (rw (← c.self.view_is) at c.requires.at_text) (rw (← c.self.view_is) at c.requires.in_bounds))

pub returns-clause-value : goal.returns-clause-value
returns-clause-value c =
    rw (← c.self.view_is, c.field.ensures)
    (sym (text-said _ _ c.self.invariant.0 _ (rw (← c.self.view_is) at c.requires.at_text) (rw (← c.self.view_is) at c.requires.in_bounds)))
