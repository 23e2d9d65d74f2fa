-- `write` meets its contract: the first pass gives the refusal or the length of what is to be written, and the second stores it.
use Rattle.std.proofs.Common.{◌≡◌, ◌∙◌, ℕ, List, length, sym, ap, arith}
use Rattle.std.specs.Prelude.{Ok, is_ok}
use Rattle.std.proofs.lemmas.List.Edits.{sets}
use Rattle.std.proofs.lemmas.Result.{err_from_is_err_and}
use Rattle.table.specs.Rows.{rows_of}
use Rattle.layout.proofs.Checked.{check-good, taking-ok, taking-err}
use Rattle.format.specs.Write.{written, written_table, write_answer, write_output}
use Rattle.format.proofs.Output.{refused, told-no-room, told-room}
use Rattle.format.proofs.RoundTrips.{written-good}
use Rattle.write.proofs.write.Goals as goal

-- what a table is written as is what its rows are
written-rows : (payload edit table q : List ℕ) → written_table payload edit table ≡ Ok q → written payload edit (rows_of table) ≡ Ok q
unfolding written_table
written-rows payload edit table q e = (check-good _ _ _ _ e).1

pub returns-in_err-size : goal.returns-in_err-size
unfolding write_answer write_output
returns-in_err-size c =
    let p = err_from_is_err_and c.from_residual.result c.from_residual.ensures.1 in
    let told = refused _ c.args.output.now (taking-err length _ _ (sym c.in_err-size.ensures)) in
    rw (p.1, p.2) (record { value = sym told.0; output_after = sym told.1 })

pub returns-then-room-size : goal.returns-then-room-size
unfolding write_answer write_output
returns-then-room-size c =
    let (q, is, size) = taking-ok length _ _ (sym c.in_ok-size.ensures) in
    let told = told-no-room (written_table c.args.payload.now c.args.edit.now c.args.rows.now) c.args.output.now is _ (sym size) (omega arith) in
    record { value = told.0; output_after = told.1 }

pub write_srci-requires : goal.write_srci-requires
write_srci-requires c =
    let (q, is, size) = taking-ok length _ _ (sym c.in_ok-size.ensures) in
    let rows = written-rows c.args.payload.now c.args.edit.now c.args.rows.now q is in
    record {
      rows_ok = ap is_ok rows;
      size_value = sym size ∙ ap length (sym (written-good c.args.payload.now c.args.edit.now q (rows_of c.args.rows.now) rows).is);
    }

pub returns : goal.returns
unfolding write_answer write_output
returns c =
    let (q, is, size) = taking-ok length _ _ (sym c.in_ok-size.ensures) in
    let told = told-room (written_table c.args.payload.now c.args.edit.now c.args.rows.now) c.args.output.now is _ (sym size) (omega arith) in
    let rows = written-rows c.args.payload.now c.args.edit.now c.args.rows.now q is in
    let bytes = (written-good c.args.payload.now c.args.edit.now q (rows_of c.args.rows.now) rows).is in
    record { value = told.0; output_after = c.write_srci.ensures ∙ ap (λ (l : List ℕ). sets c.args.output.now 0 l) bytes ∙ told.1 }
