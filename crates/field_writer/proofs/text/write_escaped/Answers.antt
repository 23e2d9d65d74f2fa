-- `field_writer::text::write_escaped` meets its contract: a turn stores an escaped byte, or a run of bytes that stand for themselves.
use Rattle.std.proofs.Common.{ap, arith, get_or, length, rules, sym, take, [], ◌∷◌, ◌∙◌, ◌≡◌}
use lib.Seq.{length-take-le}
use Rattle.std.proofs.lemmas.List.Edits.{sets}
use Rattle.format.proofs.Storing.{left-next, left-none}
use Rattle.sheet.specs.Fields.{backslash, escaped, escape}
use Rattle.find.proofs.Rest.{from, length-from}
use Rattle.field_writer.proofs.Fields.{some-letter, escape-next, escape_end, run-within, run-stands}
use Rattle.field_writer.proofs.text.write_escaped.Goals as goal

pub loop-rest-preserved-in-Some : goal.loop-rest-preserved-in-Some
loop-rest-preserved-in-Some c =
    let rest = c.loop-rest.rest.now in
    let two = some-letter (get_or rest 0 0) c.in-Some.second (sym c.letter.ensures ∙ c.in-Some.is) in
    let stored : c.write_array.new.output ≡ sets c.loop-rest.output c.loop-rest.to (backslash ∷ c.in-Some.second ∷ []) = search rules in
    record {
      most = omega (arith, length-from 1 rest, c.loop-rest.invariant.most);
      left = left-next (escaped (get_or rest 0 0)) (escape (from 1 rest)) (escape-next rest c.in-len1-up.len_at_least) c.loop-rest.invariant.left (omega (arith, ap length two)) (rw two stored);
    }

pub slice_bounds-write_bytes-end : goal.slice_bounds-write_bytes-end
slice_bounds-write_bytes-end c =
    let rest = c.loop-rest.rest.now in
    let within = run-within rest c.in-len1-up.len_at_least (sym c.in_default-letter.ensures) in
    sym (length-take-le c.find_any-run.result rest (omega (arith, within)))

pub slice_bounds-rest-count : goal.slice_bounds-rest-count
slice_bounds-rest-count c = omega (arith, run-within c.loop-rest.rest.now c.in-len1-up.len_at_least (sym c.in_default-letter.ensures))

pub overflow_add-to-in_default-letter : goal.overflow_add-to-in_default-letter
overflow_add-to-in_default-letter c = omega (arith, c.loop-rest.invariant.most, run-within c.loop-rest.rest.now c.in-len1-up.len_at_least (sym c.in_default-letter.ensures))

pub slice_bounds-rest-start : goal.slice_bounds-rest-start
slice_bounds-rest-start c = omega (arith, run-within c.loop-rest.rest.now c.in-len1-up.len_at_least (sym c.in_default-letter.ensures))

pub loop-rest-smaller : goal.loop-rest-smaller
loop-rest-smaller c =
    omega (arith, length-from c.find_any-run.result c.loop-rest.rest.now, run-within c.loop-rest.rest.now c.in-len1-up.len_at_least (sym c.in_default-letter.ensures))

pub loop-rest-preserved : goal.loop-rest-preserved
loop-rest-preserved c =
    let rest = c.loop-rest.rest.now in
    let n = c.find_any-run.result in
    let within = run-within rest c.in-len1-up.len_at_least (sym c.in_default-letter.ensures) in
    let long = length-take-le n rest (omega (arith, within)) in
    record {
      most = omega (arith, length-from n rest, within, c.loop-rest.invariant.most);
      left = left-next (take n rest) (escape (from n rest)) (rw c.find_any-run.ensures (run-stands rest)) c.loop-rest.invariant.left (omega (arith, long)) c.write_bytes.ensures;
    }

pub returns-clause-value : goal.returns-clause-value
returns-clause-value c = (left-none (escape_end _ c.in_default.len_below) c.loop-rest.invariant.left).0

pub returns-clause-output_after : goal.returns-clause-output_after
returns-clause-output_after c = (left-none (escape_end _ c.in_default.len_below) c.loop-rest.invariant.left).1
