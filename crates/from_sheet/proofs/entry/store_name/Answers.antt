-- `store_name` meets its contract: the text, and then the frame around it, make the entry.
use Rattle.std.proofs.Common.{◌+◌, List, ℕ, sym, ap, ◌∙◌, length, arith}
use lib.Seq.{sets}
use Rattle.wire.specs.Length.{wire_size}
use Rattle.wire.proofs.PaddingLaws.{le-aligned}
use Rattle.format.specs.Encoding.{u32}
use Rattle.format.proofs.Encoding.{length-name_entry}
use Rattle.format.proofs.EntryBytes.{name-is, name-header}
use Rattle.frames.specs.Entry.{name}
use Rattle.frames.specs.Frame.{entry_framed}
use Rattle.frames.proofs.EntryClosed.{entry-size, name-closed}
use Rattle.sheet.specs.Fields.{unescape}
use Rattle.from_sheet.proofs.entry.store_name.Goals as goal

pub write_unescaped-end-requires : goal.write_unescaped-end-requires
write_unescaped-end-requires c =
    let n = name (unescape c.args.field.now) c.args.content_size in
    omega (arith, length-name_entry n, le-aligned (16 + wire_size (length n.text)))

pub overflow_cast-end : goal.overflow_cast-end
overflow_cast-end c =
    let n = name (unescape c.args.field.now) c.args.content_size in
    omega (arith, length-name_entry n, le-aligned (16 + wire_size (length n.text)))

pub returns : goal.returns
returns c =
    let at = c.args.at in
    let n = name (unescape c.args.field.now) c.args.content_size in
    let size = u32 c.args.content_size in
    let end = c.write_unescaped-end.ensures.value in
    record {
      value = c.close_name.ensures.value ∙ ap (λ (m : ℕ). at + m) (entry-size 16 size (name-header c.args.content_size) n.text at end ∙ ap length (sym (name-is n)));
      output_after =
          c.close_name.ensures.output_after ∙ ap (λ (l : List ℕ). entry_framed (sets l (at + 12) size) at 16 c.write_unescaped-end.result) c.write_unescaped-end.ensures.output_after ∙
          name-closed c.args.output.now at n end;
    }
