-- `store_text` meets its contract: the text, and then its NUL.
use Rattle.std.proofs.Common.{[], ◌∷◌, List, ℕ, ap, ◌∙◌}
use lib.Seq.{sets}
use Rattle.wire.proofs.Sets.{sets-joined}
use Rattle.sheet.specs.Fields.{unescape}
use Rattle.from_sheet.proofs.entry.store_text.Goals as goal

pub returns-clause-output_after : goal.returns-clause-output_after
returns-clause-output_after c =
    c.close_text.ensures.output_after ∙ ap (λ (l : List ℕ). sets l c.write_unescaped-end.result (0 ∷ [])) c.write_unescaped-end.ensures.output_after ∙
    sets-joined (unescape c.args.field.now) (0 ∷ []) c.args.output.now c.args.at c.write_unescaped-end.result c.write_unescaped-end.ensures.value
