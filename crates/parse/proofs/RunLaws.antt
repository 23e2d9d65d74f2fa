-- How a run is counted, step by step, and that the entries and the pairs of a payload are such runs.
-- Assumes nothing.
use Rattle.std.specs.Prelude.{Err, Ok}
use Prim.Native.Nat.{ℕ, zero, suc, ◌+◌, ◌-◌, ◌<◌}
use mathlib.Core.Bool.{Bool, true, false}
use mathlib.Core.List.{List, [], ◌∷◌}
use lib.Dec.{eqb}
use mathlib.Core.Path.{◌≡◌, refl, ap, sym, ◌∙◌}
use native.Mathlib.Omega.{arith}
use borrow.Author.Tests.{eq-eqb, ne_eqb}
use Rattle.layout.specs.Checked.{Checked, check, then}
use Rattle.layout.specs.declared.refusal.Refusal.{Refusal}
use Rattle.layout.specs.declared.refusal.Refusal.TheVariants.{Leftover}
use Rattle.table.specs.declared.row.Row.{Row}
use Rattle.format.specs.Parse.{entry, after_entry, entries, pair, after_pair, pairs}
use Rattle.parse.specs.Outcome.{counted, place_of}
use Rattle.parse.specs.Run.{run}
use Rattle.parse.proofs.Count.{add, add-add, counted-more}

module _ (step : ℕ → Checked ℕ) (end : ℕ) where
  pub run-ended : (at : ℕ) → at ≡ end → run step end zero at ≡ Ok 0
  unfolding run check
  run-ended at e = rw (eq-eqb at end e)

  pub run-leftover : (at : ℕ) → (at ≡ end → ⊥) → run step end zero at ≡ Err Leftover
  unfolding run check
  run-leftover at h = rw (ne_eqb at end h)

  -- a turn of a loop that has done some of them
  module _ (count done at : ℕ) (h : done < count) where
    abbrev left : ℕ
    left = count - (done + 1)

    one-more : count - done ≡ suc left
    one-more = omega (arith, h)

    pub run-stop : (refusal : Refusal) → step at ≡ Err refusal → add done (run step end (count - done) at) ≡ Err refusal
    unfolding run then
    run-stop refusal e = rw (one-more, e) refl

    pub run-turn : (next : ℕ) → step at ≡ Ok next → add done (run step end (count - done) at) ≡ add (done + 1) (run step end left next)
    unfolding run then
    run-turn next e = rw (one-more, e) (add-add done 1 (run step end left next))

module _ (p : List ℕ) (end : ℕ) where
  -- nothing is left, or something is
  nothing-more : (b : Bool) → check b Leftover (λ _. Ok 0) ≡ counted (check b Leftover (λ _. Ok []))
  unfolding check
  nothing-more true = refl
  nothing-more false = refl

  abbrev pair_step : ℕ → Checked ℕ
  pair_step at = place_of after_pair (pair p at end)

  pub pairs-run : (count at : ℕ) → run pair_step end count at ≡ counted (pairs count p at end)
  unfolding run pairs then
  pairs-run zero at = nothing-more (eqb at end)
  pairs-run (suc count) at = go (pair p at end) (λ r. pairs-run count (after_pair r))
    where
      go :
          (c : Checked Row) →
          ((r : Row) → run pair_step end count (after_pair r) ≡ counted (pairs count p (after_pair r) end)) →
          then (place_of after_pair c) (λ next. add 1 (run pair_step end count next))
          ≡ counted (then c (λ r. then (pairs count p (after_pair r) end) (λ rows. Ok (r ∷ rows))))
      go (Err refusal) rest = refl
      go (Ok r) rest = ap (add 1) (rest r) ∙ sym (counted-more r (pairs count p (after_pair r) end))

  module _ (header : ℕ) where
    abbrev entry_step : ℕ → Checked ℕ
    entry_step at = place_of (after_entry header at) (entry header p at end)

    -- which row an entry has does not change the count
    pub entries-run : (row_of : ℕ → ℕ → Row) (count at : ℕ) → run entry_step end count at ≡ counted (entries header row_of count p at end)
    unfolding run entries then
    entries-run row_of zero at = nothing-more (eqb at end)
    entries-run row_of (suc count) at = go (entry header p at end) (λ n. entries-run row_of count (after_entry header at n))
      where
        go :
            (c : Checked ℕ) →
            ((n : ℕ) → run entry_step end count (after_entry header at n) ≡ counted (entries header row_of count p (after_entry header at n) end)) →
            then (place_of (after_entry header at) c) (λ next. add 1 (run entry_step end count next))
            ≡ counted (then c (λ n. then (entries header row_of count p (after_entry header at n) end) (λ rows. Ok (row_of at n ∷ rows))))
        go (Err refusal) rest = refl
        go (Ok n) rest = ap (add 1) (rest n) ∙ sym (counted-more (row_of at n) (entries header row_of count p (after_entry header at n) end))
