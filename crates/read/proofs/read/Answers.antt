-- `read` meets its contract: the first pass gives the definition's fault or its number of rows, and the second stores the definition's rows, which are those
-- of the walk.
use Rattle.std.proofs.Common.{ℕ, ◌/◌, ◌≤◌, List, length, ap, sym, ◌∙◌, arith, Err, Ok, is_ok}
use Rattle.std.proofs.lemmas.Result.{err_from_is_err_and}
use Rattle.table.specs.Rows.{width}
use Rattle.table.proofs.Rows.{length-rows_of}
use Rattle.table.specs.declared.row.Row.{Row}
use Rattle.layout.specs.declared.refusal.Refusal.TheVariants.{NoRows}
use Rattle.layout.proofs.Checked.{taking-ok, taking-err}
use Rattle.format.proofs.Answers.{refused, too_few, held}
use Rattle.format.proofs.WalkLaws.{parse-walk}
use Rattle.read.proofs.Stored.{stored-from-start}
use Rattle.read.specs.Store.{store_rows}
use Rattle.read.proofs.read.Goals as goal

pub returns-in_err-count : goal.returns-in_err-count
returns-in_err-count c =
    let p = err_from_is_err_and c.from_residual.result c.from_residual.ensures.1 in
    let all = refused c.args.payload.now c.args.rows.now (taking-err length _ _ (sym c.in_err-count.ensures)) in
    rw (p.1, p.2) (record { value = sym all.0; rows_after = sym all.1 })

pub returns-then-count : goal.returns-then-count
returns-then-count c =
    let (rs, is, count) = taking-ok length _ _ (sym c.in_ok-count.ensures) in
    let short = too_few c.args.payload.now c.args.rows.now is (omega (arith, count, length-rows_of c.args.rows.now)) in
    record { value = ap (λ (k : ℕ). Err (NoRows k)) (sym count) ∙ sym short.0; rows_after = sym short.1 }

pub invariant_of-checked-clause-accepted : goal.invariant_of-checked-clause-accepted
invariant_of-checked-clause-accepted c =
    let (rs, is, count) = taking-ok length _ _ (sym c.in_ok-count.ensures) in
    ap is_ok is

pub returns : goal.returns
returns c =
    let (rs, is, count) = taking-ok length _ _ (sym c.in_ok-count.ensures) in
    let room : length rs ≤ length c.args.rows.now / width = omega (arith, count, length-rows_of c.args.rows.now) in
    let all = held c.args.payload.now c.args.rows.now is room in
    record {
      value = ap Ok (sym count) ∙ sym all.0;
      rows_after =
          c.fill_srci.ensures
          ∙ ap (λ (w : List Row). store_rows c.args.rows.now 0 w) (sym (parse-walk c.args.payload.now rs is))
          ∙ stored-from-start rs c.args.rows.now room
          ∙ sym all.1;
    }
