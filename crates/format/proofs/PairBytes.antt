-- The texts of a pair, and a pair, are good exactly where their bytes stand.
-- Assumes nothing.
use Rattle.std.specs.Prelude.{Ok}
use Prim.Native.Nat.{ℕ, ◌+◌, ◌-◌, ◌≤◌, ◌<◌}
use mathlib.Core.List.{List, [], ◌∷◌, append_assoc}
use mathlib.Core.Path.{◌≡◌, sym, ap, ◌∙◌}
use native.Mathlib.Omega.{arith}
use borrow.Author.Tests.{ltb-false}
use lib.ListN.{length, drop, length-append, length-drop}
use lib.Seq.{get_or-drop}
use Rattle.find.specs.Nul.{until_nul}
use Rattle.find.proofs.NulLaws.{until-at, until-closed, until-prefix}
use Rattle.wire.specs.Length.{wire_size}
use Rattle.layout.specs.Checked.{Checked}
use Rattle.layout.specs.Spans.{span, part}
use Rattle.table.specs.Rows.{pair_row}
use Rattle.table.specs.declared.row.Row.{Row}
use Rattle.layout.proofs.Checked.{then-good}
use Rattle.format.specs.Encoding.{terminate, pair_entry}
use Rattle.format.specs.Parse.{pair_text, pair}
use Rattle.format.specs.Sections.{Pair}
use Rattle.format.specs.WellFormed.{Text, PairOk}
use Rattle.format.proofs.Encoding.{length-pair_entry}
use Rattle.format.proofs.PairLaws.{run, length_run, text-passed, pair_text-good, pair_found}
use Rattle.format.proofs.PlacedRows.{pair_placed}
use Rattle.format.proofs.TextsOk.{text-ok, ok-text}
use Rattle.format.proofs.Stands.{Stands, stands-first, stands-next, stands-join, part-stands, stands-part, length_part, nul-stands}

-- ---- a text

-- where it stands with its NUL, that is the first one from its place on
pub nul-found : (p : List ℕ) (at : ℕ) (text : List ℕ) → Text text → Stands p at (terminate text) → until_nul (drop at p) ≡ length text
nul-found p at text ok s =
    let after : List ℕ = drop (at + length (terminate text)) p in
    ap until_nul (s ∙ append_assoc text (0 ∷ []) after) ∙ until-closed text after (ltb-false (until_nul text) (length text) ok.closed)

module _ (p : List ℕ) (at end : ℕ) (inside : end ≤ length p) where
  pub text-stands : (n : ℕ) → pair_text p at end ≡ Ok n → Stands p at (terminate (part p at n)) × Text (part p at n)
  text-stands n e =
      let (within, until, passed) = pair_text-good p at end n e in
      let room : at + n ≤ length p = omega arith in
      let size : length (part p at n) ≡ n = length_part p at n room in
      let there : until_nul (drop at p) < length (drop at p) = omega (arith, length-drop at p) in
      let nul = sym (get_or-drop at p (until_nul (drop at p)) 0) ∙ until-at (drop at p) there in
      let closes : Stands p (at + n) (0 ∷ []) = nul-stands p (at + n) (omega arith) (rw until nul) in (
        stands-join p at (part p at n) (0 ∷ []) (at + n) (omega (arith, size)) (part-stands p at n room) closes,
        text-ok p at n passed,
      )

  pub stands-text : (text : List ℕ) → Text text → at + wire_size (length text) ≤ end → Stands p at (terminate text) → pair_text p at end ≡ Ok (length text)
  stands-text text ok within s =
      let whole = nul-found p at text ok s in
      let found : until_nul (run p at end) ≡ length text = until-prefix (drop at p) (end - at) (omega (arith, whole)) ∙ whole in
      let this : part p at (length text) ≡ text = stands-part p at text (stands-first p at text (0 ∷ []) s) in
      text-passed p at end (omega (arith, found, length_run p at end inside)) (ok-text p at _ text (ap (λ (k : ℕ). part p at k) found ∙ this) ok) ∙
      ap {B = Checked ℕ} (λ (k : ℕ). Ok k) found

-- ---- a pair

module _ (p : List ℕ) (at end : ℕ) (inside : end ≤ length p) where
  pub pair-stands : (r : Row) → pair p at end ≡ Ok r → (x : Pair) × Stands p at (pair_entry x) × PairOk x × (r ≡ pair_placed at x)
  unfolding pair pair_entry
  pair-stands r e =
      let (n, name-good, after) = then-good _ _ _ e in
      let (v, value-good, found) = then-good _ _ _ after in
      let next : ℕ = at + wire_size n in
      let name-within = (pair_text-good p at end n name-good).0 in
      let value-within = (pair_text-good p next end v value-good).0 in
      let name-size : length (part p at n) ≡ n = length_part p at n (omega arith) in
      let value-size : length (part p next v) ≡ v = length_part p next v (omega arith) in
      let (name, name-ok) = text-stands p at end inside n name-good in
      let (value, value-ok) = text-stands p next end inside v value-good in
      let there : next ≡ at + length (terminate (part p at n)) = omega (arith, length-append (part p at n) (0 ∷ []), name-size) in
      let same : pair_row (span 0 at n) (span 0 next v) ≡ r = cc in (
        record { name = part p at n; value = part p next v },
        stands-join p at (terminate (part p at n)) (terminate (part p next v)) next there name value,
        record { name = name-ok; value = value-ok },
        sym same ∙ rw (name-size, value-size),
      )

  pub stands-pair : (x : Pair) → PairOk x → at + length (pair_entry x) ≤ end → Stands p at (pair_entry x) → pair p at end ≡ Ok (pair_placed at x)
  unfolding pair_entry
  stands-pair x ok within s =
      let name : List ℕ = x.name in
      let value : List ℕ = x.value in
      let next : ℕ = at + wire_size (length name) in
      let there : next ≡ at + length (terminate name) = omega (arith, length-append name (0 ∷ [])) in
      let sizes = length-pair_entry x in
      pair_found p at end (length name)
      (stands-text p at end inside name ok.name (omega arith) (stands-first p at (terminate name) (terminate value) s)) (length value)
      (stands-text p next end inside value ok.value (omega arith) (stands-next p at (terminate name) (terminate value) next there s))
