-- `check_any_pair_text` meets its contract: the place of the first NUL of the run decides the first test, and the answer of `validate` the second.
use Rattle.std.proofs.Common.{◌≡◌, ℕ, ◌+◌, ◌-◌, ◌<◌, ◌≤◌, List, length, ◌∙◌, ap, sym, arith}
use Rattle.std.specs.Prelude.{Ok, Some}
use Rattle.std.specs.Result.{result_ok}
use Rattle.std.proofs.lemmas.Result.{err_from_is_err_and}
use Rattle.find.specs.Nul.{until_nul, first_nul}
use Rattle.find.proofs.NulLaws.{nul-place, no-nul}
use Rattle.utf8.specs.Rfc3629.{utf8_of}
use Rattle.utf8.proofs.Laws.{well-formed, not-well-formed}
use Rattle.layout.specs.Spans.{part}
use Rattle.layout.proofs.Checked.{refused-by}
use Rattle.format.proofs.PairLaws.{run, length_run, text-open, text-ill-formed, text-well-formed}
use Rattle.parse.specs.Outcome.{maybe_text}
use Rattle.parse.proofs.arguments.check_any_pair_text.Goals as goal

-- a NUL that was found is the first of the run, and lies in it
found :
    (p : List ℕ) (at end n : ℕ) →
    (at ≤ end) × (end ≤ length p) →
    Some n ≡ first_nul (run p at end) →
    (n ≡ until_nul (run p at end)) × (until_nul (run p at end) < length (run p at end)) × (at + n < end)
found p at end n (low, high) e =
    let (same, inside) = nul-place (run p at end) n e in
    (same, inside, omega (arith, same, inside, length_run p at end high))

pub overflow_add-stop : goal.overflow_add-stop
overflow_add-stop c = omega (arith, found _ _ _ _ (c.requires, c.args.part.within) (sym (c.ok_or.ensures.ok_part ∙ ap result_ok c.in_ok-count.was) ∙ c.find_nul.ensures))

pub slice_bounds-validate-end : goal.slice_bounds-validate-end
slice_bounds-validate-end c = omega (arith, found _ _ _ _ (c.requires, c.args.part.within) (sym (c.ok_or.ensures.ok_part ∙ ap result_ok c.in_ok-count.was) ∙ c.find_nul.ensures))

pub returns-in_err-count : goal.returns-in_err-count
returns-in_err-count c =
    let p = err_from_is_err_and c.from_residual.result c.from_residual.ensures.1 in
    let (none, refusal) = refused-by _ c.ok_or.ensures.value c.in_err-count.was in
    rw (p.1, p.2, refusal) (sym (ap maybe_text (text-open _ _ _ (no-nul _ (sym none ∙ c.find_nul.ensures)))))

-- what stands before the NUL is what `validate` is shown
shown : (p : List ℕ) (at end n : ℕ) → n ≡ until_nul (run p at end) → utf8_of (part p at (at + n - at)) ≡ utf8_of (part p at (until_nul (run p at end)))
shown p at end n is = ap (λ (m : ℕ). utf8_of (part p at m)) (omega (arith, is))

pub returns-in_err-validate : goal.returns-in_err-validate
returns-in_err-validate c =
    let p = err_from_is_err_and c.from_residual-in_err-validate.result c.from_residual-in_err-validate.ensures.1 in
    let (same, inside, _) = found _ _ _ _ (c.requires, c.args.part.within) (sym (c.ok_or.ensures.ok_part ∙ ap result_ok c.in_ok-count.was) ∙ c.find_nul.ensures) in
    let ill = not-well-formed _ _ (sym (shown _ _ _ _ same) ∙ sym c.in_err-validate.ensures) in
    rw (p.1, p.2) (sym (ap maybe_text (text-ill-formed _ _ _ inside ill)))

pub returns : goal.returns
returns c =
    let (same, inside, _) = found _ _ _ _ (c.requires, c.args.part.within) (sym (c.ok_or.ensures.ok_part ∙ ap result_ok c.in_ok-count.was) ∙ c.find_nul.ensures) in
    let formed = well-formed _ (sym (shown _ _ _ _ same) ∙ sym c.in_ok-validate.ensures) in
    ap (λ (n : ℕ). Ok (record { 0 = n })) same ∙ sym (ap maybe_text (text-well-formed _ _ _ inside formed))
