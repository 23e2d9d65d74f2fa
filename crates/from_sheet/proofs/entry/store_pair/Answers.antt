-- `store_pair` meets its contract: one text, and then the other.
use Rattle.std.proofs.Common.{[], ◌∷◌, List, ℕ, ap, ◌∙◌, arith}
use lib.ListN.{length-append}
use lib.Seq.{sets}
use Rattle.wire.proofs.Sets.{sets-joined}
use Rattle.format.specs.Encoding.{terminate, pair_entry}
use Rattle.format.proofs.Encoding.{length-pair_entry}
use Rattle.frames.specs.Entry.{pair}
use Rattle.sheet.specs.Fields.{unescape}
use Rattle.from_sheet.proofs.entry.store_pair.Goals as goal

pub store_text-next-requires : goal.store_text-next-requires
store_text-next-requires c = omega (arith, length-pair_entry (pair (unescape c.args.key.now) (unescape c.args.value.now)))

pub overflow_cast-next : goal.overflow_cast-next
overflow_cast-next c = omega (arith, length-pair_entry (pair (unescape c.args.key.now) (unescape c.args.value.now)))

pub store_text-requires : goal.store_text-requires
store_text-requires c = omega (arith, length-pair_entry (pair (unescape c.args.key.now) (unescape c.args.value.now)))

pub returns : goal.returns
unfolding pair_entry
returns c =
    let key = unescape c.args.key.now in
    let value = unescape c.args.value.now in
    let next = c.store_text-next.ensures.value in
    record {
      value = omega (arith, length-pair_entry (pair key value));
      output_after =
          c.store_text.ensures.output_after ∙ ap (λ (l : List ℕ). sets l c.store_text-next.result (terminate value)) c.store_text-next.ensures.output_after ∙
          sets-joined (terminate key) (terminate value) c.args.output.now c.args.at c.store_text-next.result (omega (arith, next, length-append key (0 ∷ [])));
    }
