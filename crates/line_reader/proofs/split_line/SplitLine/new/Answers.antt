-- `new` meets its contract: each end is looked for from the one before it, and where it is the line's end so are all that follow.
use Rattle.std.proofs.Common.{◌≡◌, ◌≢◌, ℕ, ◌<◌, [], ◌∷◌, sym, ◌∙◌, refl, length, get_or, get_or-set_other, get_or-set_same, below_more, arith, zero, suc}
use native.Mathlib.Decide.{dec_le}
use Rattle.line_reader.specs.Ends.{end_from}
use Rattle.line_reader.proofs.EndsLaws.{line-most, next-part, end-stays}
use Rattle.line_reader.proofs.split_line.SplitLine.new.Goals.{else-loop-end-test, then-loop-end-test+then-end-line}
use Rattle.line_reader.proofs.split_line.SplitLine.new.Goals as goal

all_same : (n k : ℕ) → k < 5 → get_or (n ∷ n ∷ n ∷ n ∷ n ∷ []) k 0 ≡ n
all_same n zero h = refl
all_same n (suc zero) h = refl
all_same n (suc (suc zero)) h = refl
all_same n (suc (suc (suc zero))) h = refl
all_same n (suc (suc (suc (suc zero)))) h = refl
all_same n (suc (suc (suc (suc (suc k))))) h = absurd (omega arith)

pub loop-end-init : goal.loop-end-init
unfolding end_from
loop-end-init c = record {
  within = omega arith;
  next = refl;
  found = λ k h. absurd (omega arith);
  rest = λ k h l. all_same _ k l;
}

pub loop-end-preserved : goal.loop-end-preserved
loop-end-preserved c =
    let s = c.args.line.now in
    let n = c.loop-end.end-index in
    let here : c.find_from.result ≡ end_from s 0 n = c.find_from.ensures.value ∙ c.loop-end.invariant.next in
    let inside : n < length c.loop-end.end-items = omega arith in
    record {
      within = omega (arith, here, line-most s n);
      next = rw here (next-part s n (omega (arith, here, line-most s n)));
      found =
          below_more _ _
          (λ k h. let ne : k ≢ n = omega arith in rw get_or-set_other (c.loop-end.invariant.found k h))
          (rw get_or-set_same here);
      rest = λ k h l. let ne : k ≢ n = omega arith in rw get_or-set_other (c.loop-end.invariant.rest k (omega arith) l);
    }

pub invariant_of-result : goal.invariant_of-result
invariant_of-result c =
    let s = c.args.line.now in
    let n = c.loop-end.end-index in
    record {
      ends_are =
          elim c.loop-end-test.branch [
            | else-loop-end-test w ↦ λ k h. rw w.ends-is (c.loop-end.invariant.found k (omega arith))
            | then-loop-end-test+then-end-line w ↦
                let here : w.find_from.result ≡ end_from s 0 n = w.find_from.ensures.value ∙ c.loop-end.invariant.next in
                let last : length s ≡ end_from s 0 n = sym w.if-end-line.true ∙ here in
                let inside : n < length c.loop-end.end-items = omega arith in
                λ k h. rw w.ends-is (elim (dec_le k n) [
                  | yes p ↦ elim (dec_le n k) [
                    | yes q ↦ let is : k ≡ n = omega arith in rw (is, get_or-set_same) here
                    | no q ↦ let ne : k ≢ n = omega arith in rw get_or-set_other (c.loop-end.invariant.found k (omega arith))
                  ]
                  | no p ↦
                      let ne : k ≢ n = omega arith in
                      rw get_or-set_other (c.loop-end.invariant.rest k (omega arith) h ∙ last ∙ sym (end-stays s 0 n (omega (arith, last)) k (omega arith)))
                ])
          ];
    }
