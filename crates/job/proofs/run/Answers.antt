-- `run` meets its contract: what the job makes is measured, and stored where there is room.
use Rattle.std.proofs.Common.{length, sym, ap, arith}
use Rattle.std.proofs.lemmas.Result.{err_from_is_err_and}
use Rattle.std.specs.Prelude.{is_ok}
use Rattle.layout.proofs.Checked.{taking-ok, taking-err}
use Rattle.format.proofs.Measured.{met-refused, met-short, met-stored}
use Rattle.format.specs.Read.{accepted}
use Rattle.job.proofs.run.Goals as goal

pub invariant_of-checked-clause-accepted : goal.invariant_of-checked-clause-accepted
invariant_of-checked-clause-accepted g c =
    let (rows, parsed, counts) = taking-ok length _ _ (sym c.in_ok-parse_srci.ensures) in
    ap is_ok parsed

pub returns-in_err-parse_srci : goal.returns-in_err-parse_srci
returns-in_err-parse_srci g c =
    let p = err_from_is_err_and c.from_residual.result c.from_residual.ensures.1 in
    let m = met-refused g.met.J.Job.by_walk c.args.payload.now c.args.output.now (taking-err length _ _ (sym c.in_err-parse_srci.ensures)) in
    rw (p.1, p.2) (record { value = m.0; output_after = m.1 })

pub returns-then-room-size : goal.returns-then-room-size
unfolding accepted
returns-then-room-size g c =
    let (rows, parsed, counts) = taking-ok length _ _ (sym c.in_ok-parse_srci.ensures) in
    let w = c.write-size.ensures in
    let m = met-short g.met.J.Job.by_walk c.args.payload.now c.args.output.now ((λ k. omega (arith, c.type_inv.payload k)), ap is_ok parsed) (w.value, w.output_after) (omega arith) in
    record { value = m.0; output_after = m.1 }

pub returns : goal.returns
unfolding accepted
returns g c =
    let (rows, parsed, counts) = taking-ok length _ _ (sym c.in_ok-parse_srci.ensures) in
    let w = c.write-size.ensures in
    let stored = c.write.ensures.output_after in
    let m = met-stored g.met.J.Job.by_walk c.args.payload.now c.args.output.now ((λ k. omega (arith, c.type_inv.payload k)), ap is_ok parsed) (w.value, w.output_after) (omega arith) stored in
    record { value = m.0; output_after = m.1 }
