-- `from_sheet` meets its contract: the first pass gives the refusal or the length of the payload, and the second stores it.
use Rattle.std.proofs.Common.{List, ℕ, sym, ap, ◌∙◌, length, arith}
use Rattle.std.proofs.lemmas.Result.{err_from_is_err_and}
use lib.Seq.{sets}
use Rattle.layout.proofs.Checked.{taking-ok, taking-err}
use Rattle.format.proofs.Output.{refused, told-no-room, told-room}
use Rattle.format.specs.Encoding.{encode}
use Rattle.format.specs.Records.{Record, sections}
use Rattle.sheet.specs.FromSheet.{from_sheet, from_sheet_answer, from_sheet_output}
use Rattle.from_sheet.proofs.RecordsFrom.{payload-read}
use Rattle.from_sheet.proofs.from_sheet.Goals as goal

pub returns-in_err-size : goal.returns-in_err-size
unfolding from_sheet_answer from_sheet_output
returns-in_err-size c =
    let p = err_from_is_err_and c.from_residual.result c.from_residual.ensures.1 in
    let told = refused _ c.args.output.now (taking-err length _ _ (sym c.measure.ensures ∙ c.in_err-size.was)) in
    record { value = rw (p.1, p.2) (sym told.0); output_after = sym told.1 }

pub returns-then-short : goal.returns-then-short
unfolding from_sheet_answer from_sheet_output
returns-then-short c =
    let (p, is, size) = taking-ok length _ _ (sym c.measure.ensures ∙ c.in_ok-size.was) in
    let told = told-no-room (from_sheet c.args.sheet.now) c.args.output.now is _ (sym size) (omega arith) in
    record { value = told.0; output_after = told.1 }

pub new-requires : goal.new-requires
new-requires c =
    let (p, is, size) = taking-ok length _ _ (sym c.measure.ensures ∙ c.in_ok-size.was) in
    (payload-read c.args.sheet.now p is).sound.0

pub store_srci-requires : goal.store_srci-requires
store_srci-requires c =
    let (p, is, size) = taking-ok length _ _ (sym c.measure.ensures ∙ c.in_ok-size.was) in
    let all = payload-read c.args.sheet.now p is in
    rw c.new.ensures
    (record {
      order = all.sound.1;
      few = all.few;
      size_value = sym size ∙ ap length all.is;
      size_le_limit = omega (arith, all.small, size);
    })

pub returns : goal.returns
unfolding from_sheet_answer from_sheet_output
returns c =
    let (p, is, size) = taking-ok length _ _ (sym c.measure.ensures ∙ c.in_ok-size.was) in
    let (answered, left) = told-room (from_sheet c.args.sheet.now) c.args.output.now is _ (sym size) (omega arith) in
    let stored = c.store_srci.ensures ∙ ap (λ (rs : List Record). sets c.args.output.now 0 (encode (sections rs))) c.new.ensures in
    record {
      value = answered;
      output_after = stored ∙ ap (λ (l : List ℕ). sets c.args.output.now 0 l) (sym (payload-read c.args.sheet.now p is).is) ∙ left;
    }
