-- What the texts, the pairs and the runs of pairs of an arguments section are, test by test; and where each lies where it is good.
-- Assumes nothing.
use Rattle.std.specs.Prelude.{Err, Ok}
use Prim.Native.Nat.{ℕ, zero, suc, ◌+◌, ◌-◌, ◌*◌, ◌≤◌, ◌<◌}
use mathlib.Core.Bool.{true, false}
use mathlib.Core.List.{List, [], ◌∷◌}
use mathlib.Core.Path.{◌≡◌, refl, sym, ap, ◌∙◌}
use native.Mathlib.Omega.{arith}
use borrow.Author.Tests.{lt-ltb, le-ltb, ltb-true, eqb-true}
use lib.ListN.{length, get_or, drop, length-take, length-drop}
use lib.Seq.{get_or-take, get_or-drop}
use Rattle.find.specs.Nul.{until_nul}
use Rattle.find.proofs.NulLaws.{until-take, until-prefix, until-in-prefix, until-nul, until-run}
use Rattle.wire.specs.Length.{wire_size}
use Rattle.utf8.specs.Rfc3629.{well_formed}
use Rattle.utf8.proofs.Laws.{ascii-well-formed}
use Rattle.layout.specs.Checked.{Checked, check, then}
use Rattle.layout.specs.Spans.{span, part}
use Rattle.layout.specs.TextCheck.{check_text}
use Rattle.table.specs.Rows.{pair_row}
use Rattle.layout.specs.declared.refusal.Refusal.TheVariants.{OpenText, NotUtf8}
use Rattle.table.specs.declared.row.Row.{Row}
use Rattle.layout.proofs.Checked.{check-good, then-good, after-fault, after-good}
use Rattle.layout.proofs.TextCheck.{check-not-utf8, check-passed}
use Rattle.format.specs.Parse.{pair_text, pair, after_pair, pairs}
use Rattle.format.specs.Walk.{pair_at}

-- the bytes from a place up to an end
abbrev pub run : List ℕ → ℕ → ℕ → List ℕ
run p at end = part p at (end - at)

pub length_run : (p : List ℕ) (at end : ℕ) → end ≤ length p → length (run p at end) ≡ end - at
length_run p at end h = simp (length-take, length-drop) (omega arith)

module _ (p : List ℕ) (at end : ℕ) where
  -- ---- a text

  pub text-open : length (run p at end) ≤ until_nul (run p at end) → pair_text p at end ≡ Err OpenText
  unfolding pair_text check
  text-open h = rw (le-ltb (until_nul (run p at end)) (length (run p at end)) h)

  module _ (h : until_nul (run p at end) < length (run p at end)) where
    abbrev n : ℕ
    n = until_nul (run p at end)

    -- no NUL stands before the first
    no_nul : length (part p at n) ≤ until_nul (part p at n)
    no_nul = omega (arith, until-take (drop at p) n (omega (arith, until-in-prefix (drop at p) (end - at) h)))

    pub text-ill-formed : well_formed (part p at n) ≡ false → pair_text p at end ≡ Err NotUtf8
    unfolding pair_text check
    text-ill-formed e = rw (lt-ltb (until_nul (run p at end)) (length (run p at end)) h) (after-fault _ _ (check-not-utf8 p at n _ refl e))

    pub text-passed : check_text p at n ≡ Ok tt → pair_text p at end ≡ Ok n
    unfolding pair_text check
    text-passed e = rw (lt-ltb (until_nul (run p at end)) (length (run p at end)) h) (after-good _ _ e)

    pub text-well-formed : well_formed (part p at n) ≡ true → pair_text p at end ≡ Ok n
    text-well-formed e = text-passed (check-passed p at n _ refl e no_nul)

  -- bytes of ASCII that are no NUL, from the place up to `stop`, and a NUL there: a text
  pub text-plain :
      (stop : ℕ) →
      at ≤ stop →
      stop < end →
      end ≤ length p →
      ((k : ℕ) → k < stop → at ≤ k → (0 < get_or p k 0) × (get_or p k 0 < 0x80)) →
      get_or p stop 0 ≡ 0 →
      pair_text p at end ≡ Ok (stop - at)
  text-plain stop h l m plain e =
      let n : ℕ = stop - at in
      let here : at + n ≡ stop = omega arith in
      let byte : (k : ℕ) → k < n → (0 < get_or p (at + k) 0) × (get_or p (at + k) 0 < 0x80) = λ k i. plain (at + k) (omega arith) (omega arith) in
      let closes : until_nul (drop (at + n) p) ≡ 0 = ap (λ (k : ℕ). until_nul (drop k p)) here ∙ until-nul p stop e in
      let whole : until_nul (drop at p) ≡ n = omega (arith, until-run p at n (omega arith) (λ k i. (byte k i).0)) in
      let found : until_nul (run p at end) ≡ n = until-prefix (drop at p) (end - at) (omega (arith, whole)) ∙ whole in
      let ascii : (k : ℕ) → k < length (part p at n) → get_or (part p at n) k 0 < 0x80 =
      λ k i.
      let inside : k < n = omega (arith, length-take n (drop at p)) in
      rw (get_or-take n (drop at p) k 0 inside, get_or-drop at p k 0) (byte k inside).1 in
      text-well-formed (omega (arith, length_run p at end m)) (ap (λ (k : ℕ). well_formed (part p at k)) found ∙ ascii-well-formed (part p at n) ascii) ∙
      ap {B = Checked ℕ} (λ (k : ℕ). Ok k) found

  -- a good text passes the check, and ends before `end`, at the first NUL of all the bytes from its place on
  pub pair_text-good : (n : ℕ) → pair_text p at end ≡ Ok n → (at + wire_size n ≤ end) × (n ≡ until_nul (drop at p)) × (check_text p at n ≡ Ok tt)
  unfolding pair_text
  pair_text-good n e =
      let ended = check-good _ _ _ _ e in
      let (done, passed, found) = then-good _ _ _ ended.1 in
      let same : until_nul (run p at end) ≡ n = cc in
      let inside : until_nul (run p at end) < length (run p at end) = ltb-true _ _ ended.0 in (
        omega (arith, length-take (end - at) (drop at p)),
        sym same ∙ until-in-prefix (drop at p) (end - at) inside,
        rw (← same) passed,
      )

  -- ---- a pair

  module _ (name : ℕ) (e : pair_text p at end ≡ Ok name) where
    pub pair_found : (value : ℕ) → pair_text p (at + wire_size name) end ≡ Ok value → pair p at end ≡ Ok (pair_row (span 0 at name) (span 0 (at + wire_size name) value))
    unfolding pair then
    pair_found value f = rw (e, f)

-- a good pair has a NUL after each of its texts, both before `end`, and is the one that the walk finds
pub pair-good : (p : List ℕ) (at end : ℕ) (r : Row) → pair p at end ≡ Ok r → (at + 2 ≤ after_pair r) × (after_pair r ≤ end) × (r ≡ pair_at p at)
unfolding pair
pair-good p at end r e =
    let (n, name-found, after) = then-good _ _ _ e in
    let (v, value_found, found) = then-good _ _ _ after in
    let same : pair_row (span 0 at n) (span 0 (at + wire_size n) v) ≡ r = cc in
    let name = pair_text-good p at end n name-found in
    let value = pair_text-good p (at + wire_size n) end v value_found in (
      omega (arith, ap after_pair same),
      omega (arith, value.0, ap after_pair same),
      sym same ∙ rw (value.1, name.1),
    )

-- ---- pairs

module _ (p : List ℕ) (end : ℕ) where
  pub pairs-bound : (count at : ℕ) (rs : List Row) → pairs count p at end ≡ Ok rs → (at + 2 * length rs ≤ end) × (length rs ≡ count)
  unfolding pairs
  pairs-bound zero at rs e =
      let ended = check-good _ _ _ _ e in
      let none : rs ≡ [] = cc ended.1 in
      (omega (arith, eqb-true, ap length none), ap length none)
  pairs-bound (suc count) at rs e =
      let (r, first, after) = then-good _ _ _ e in
      let (rest, others, found) = then-good _ _ _ after in
      let all : rs ≡ r ∷ rest = cc in
      let bound = pairs-bound count (after_pair r) rest others in
      (omega (arith, ap length all, (pair-good p at end r first).0, bound.0), ap length all ∙ ap suc bound.1)
