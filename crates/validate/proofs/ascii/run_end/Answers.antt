-- The three steps pass one run.
use Rattle.std.proofs.Common.{◌≡◌, ℕ, ◌+◌, ◌-◌, ◌<◌, ◌≤◌, true, List, length, get_or, nat_lt, ap, arith, rules, tests}
use native.Mathlib.Decide.{dec_lt}
use Rattle.std.specs.List.{between}
use Rattle.std.proofs.lemmas.List.Edits.{length-between, get_or-between}
use Rattle.utf8.specs.Plain.{are_plain}
use Rattle.utf8.proofs.PlainBytes.{plain_at}
use Rattle.validate.proofs.ascii.run_end.Goals as goal

-- a block of ASCII, by places of the text
block : (s : List ℕ) (n i : ℕ) → i + n ≤ length s → are_plain (between i (i + n) s) ≡ true → (j : ℕ) → j < n → nat_lt (get_or s (i + j) 0) 0x80 ≡ true
block s n i h plain j l =
    let e = get_or-between s i (i + n) j 0 (omega arith) in
    let b = (plain_at (between i (i + n) s) plain j (omega (arith, length-between s i (i + n) h))).1 in
    let low : get_or s (i + j) 0 < 0x80 = omega arith in
    search (rules, tests)

pub returns-clause-ascii : goal.returns-clause-ascii
returns-clause-ascii c k h =
    let s = c.args.text.now in
    let large = c.blocks_end-large.ensures.passed (λ k. nat_lt (get_or s k 0) 0x80) (λ k l. absurd (omega arith)) (λ i l f no. block s 64 i f (search (rules, tests))) in
    let small = c.blocks_end-small.ensures.passed (λ k. nat_lt (get_or s k 0) 0x80) large (λ i l f no. block s 16 i f (search (rules, tests))) in
    let end = c.blocks_end-small.result in
    elim (dec_lt k end) [
      | yes d ↦ let low = small k d in search (rules, tests)
      | no d ↦
          let rest = c.first_other.ensures.ascii (k - end) (omega arith) in
          let e = get_or-between s end (length s) (k - end) 0 (omega arith) in
          let place : end + (k - end) ≡ k = omega arith in
          let same : get_or s (end + (k - end)) 0 ≡ get_or s k 0 = ap (λ (p : ℕ). get_or s p 0) place in
          omega arith
    ]
