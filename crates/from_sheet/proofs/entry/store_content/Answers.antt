-- `store_content` meets its contract: the text, and then the frame around it, make the entry.
use Rattle.std.proofs.Common.{◌+◌, [], List, ℕ, refl, sym, ap, ◌∙◌, length, arith}
use Rattle.wire.specs.Length.{wire_size}
use Rattle.wire.proofs.PaddingLaws.{le-aligned}
use Rattle.format.proofs.Encoding.{length-content_entry}
use Rattle.format.proofs.EntryBytes.{content-is}
use Rattle.frames.specs.Frame.{entry_framed}
use Rattle.frames.proofs.EntryClosed.{entry-size, content-closed}
use Rattle.sheet.specs.Fields.{unescape}
use Rattle.from_sheet.proofs.entry.store_content.Goals as goal

pub write_unescaped-end-requires : goal.write_unescaped-end-requires
write_unescaped-end-requires c =
    let t = unescape c.args.field.now in
    omega (arith, length-content_entry t, le-aligned (12 + wire_size (length t)))

pub overflow_cast-end : goal.overflow_cast-end
overflow_cast-end c =
    let t = unescape c.args.field.now in
    omega (arith, length-content_entry t, le-aligned (12 + wire_size (length t)))

pub returns : goal.returns
returns c =
    let at = c.args.at in
    let t = unescape c.args.field.now in
    let end = c.write_unescaped-end.ensures.value in
    record {
      value = c.close_content.ensures.value ∙ ap (λ (n : ℕ). at + n) (entry-size 12 [] refl t at end ∙ ap length (sym (content-is t)));
      output_after =
          c.close_content.ensures.output_after ∙ ap (λ (l : List ℕ). entry_framed l at 12 c.write_unescaped-end.result) c.write_unescaped-end.ensures.output_after ∙
          content-closed c.args.output.now at t end;
    }
