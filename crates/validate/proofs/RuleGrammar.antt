-- The local rule is RFC 3629's. After a character's first byte the rule asks for the ranges of the other bytes of its alternative, one by one
-- (`Owes`), and after the last of them nothing is open again; so a text obeys the rule exactly where it is UTF8-octets.
-- Assumes nothing.
use Rattle.utf8.specs.declared.Utf8Error.{Utf8Error}
use Rattle.std.specs.Prelude.{Err, ◌≡◌, ℕ, zero, suc, ◌+◌, ◌<◌, ◌≤◌, Bool, true, false, ◌&&◌, ◌||◌, leb, List, [], ◌∷◌, length, get_or, drop, Result, Ok}
use mathlib.Core.Path.{refl, sym, ◌∙◌, ap}
use mathlib.Core.Bool.{true≢false}
use Prim.Native.Nat.{zero-le}
use native.Mathlib.Nat.{not-suc-le-zero, le_of_suc-le-suc}
use native.Mathlib.Omega.{arith}
use lib.ListN.{length-drop}
use borrow.Author.Tests.{leb-true, leb-false, le-leb, lt-leb, eq-eqb, ne_eqb}
use Rattle.utf8.specs.Rfc3629.{Range, to, tail, alternatives, within, begins, char_length, octets_from, utf8_of, well_formed, ill_formed}
use Rattle.utf8.specs.Classes.{opens, place_in, class_of, length_after}
use Rattle.validate.specs.Rule.{due, follows, leads, right, right_from, ruled, RuleIsGrammar}
use Rattle.utf8.proofs.Alternatives.{length_at, class-length, length-past}
use Rattle.utf8.proofs.Laws.{well-formed, not-well-formed}
use Rattle.utf8.proofs.Octets.{skip}

-- ---- what the tests say

module _ (p3 p2 p1 : ℕ) where
  pub due-false : due p3 p2 p1 ≡ false → (p1 < 0xC2) × (p2 < 0xE0) × (p3 < 0xF0)
  unfolding due
  due-false = go (leb 0xC2 p1) (leb 0xE0 p2) (leb 0xF0 p3) refl refl refl
    where
      go : (a b c : Bool) → leb 0xC2 p1 ≡ a → leb 0xE0 p2 ≡ b → leb 0xF0 p3 ≡ c → (a || b || c) ≡ false → (p1 < 0xC2) × (p2 < 0xE0) × (p3 < 0xF0)
      go true b c x y z e = absurd (true≢false e)
      go false true c x y z e = absurd (true≢false e)
      go false false true x y z e = absurd (true≢false e)
      go false false false x y z e = (leb-false _ _ x, leb-false _ _ y, leb-false _ _ z)

  pub due-none : p1 < 0xC2 → p2 < 0xE0 → p3 < 0xF0 → due p3 p2 p1 ≡ false
  unfolding due
  due-none a b c = rw (lt-leb 0xC2 p1 a, lt-leb 0xE0 p2 b, lt-leb 0xF0 p3 c)

  due-first : 0xC2 ≤ p1 → due p3 p2 p1 ≡ true
  unfolding due
  due-first a = rw (le-leb 0xC2 p1 a)

  due-second : p1 < 0xC2 → 0xE0 ≤ p2 → due p3 p2 p1 ≡ true
  unfolding due
  due-second a b = rw (lt-leb 0xC2 p1 a, le-leb 0xE0 p2 b)

  due-third : p1 < 0xC2 → p2 < 0xE0 → 0xF0 ≤ p3 → due p3 p2 p1 ≡ true
  unfolding due
  due-third a b c = rw (lt-leb 0xC2 p1 a, lt-leb 0xE0 p2 b, le-leb 0xF0 p3 c)

module _ (r : Range) (b : ℕ) where
  pub within_in : r.low ≤ b → b ≤ r.high → within r b ≡ true
  within_in l h = rw (le-leb r.low b l, le-leb b r.high h)

  pub within-bounds : within r b ≡ true → (r.low ≤ b) × (b ≤ r.high)
  within-bounds = go (leb r.low b) (leb b r.high) refl refl
    where
      go : (x y : Bool) → leb r.low b ≡ x → leb b r.high ≡ y → (x && y) ≡ true → (r.low ≤ b) × (b ≤ r.high)
      go true true p q e = (leb-true _ _ p, leb-true _ _ q)
      go true false p q e = absurd (true≢false (sym e))
      go false y p q e = absurd (true≢false (sym e))

  within-above : within r b ≡ false → r.low ≤ b → r.high < b
  within-above e l = leb-false b r.high (go (leb r.low b) (leb b r.high) (le-leb r.low b l) e)
    where
      go : (x y : Bool) → x ≡ true → (x && y) ≡ false → y ≡ false
      go true y p e = e
      go false y p e = absurd (true≢false (sym p))

pub follows-tail : (b : ℕ) → (b ≡ 0xE0 → ⊥) → (b ≡ 0xED → ⊥) → (b ≡ 0xF0 → ⊥) → (b ≡ 0xF4 → ⊥) → follows b ≡ tail
unfolding follows
follows-tail b e d f g = rw (ne_eqb b 0xE0 e, ne_eqb b 0xED d, ne_eqb b 0xF0 f, ne_eqb b 0xF4 g)

module _ (b : ℕ) where
  pub follows-E0 : b ≡ 0xE0 → follows b ≡ to 0xA0 0xBF
  unfolding follows
  follows-E0 e = rw (eq-eqb b 0xE0 e)

  pub follows-ED : b ≡ 0xED → follows b ≡ to 0x80 0x9F
  unfolding follows
  follows-ED e = rw (ne_eqb b 0xE0 (omega arith), eq-eqb b 0xED e)

  pub follows-F0 : b ≡ 0xF0 → follows b ≡ to 0x90 0xBF
  unfolding follows
  follows-F0 e = rw (ne_eqb b 0xE0 (omega arith), ne_eqb b 0xED (omega arith), eq-eqb b 0xF0 e)

  pub follows-F4 : b ≡ 0xF4 → follows b ≡ to 0x80 0x8F
  unfolding follows
  follows-F4 e = rw (ne_eqb b 0xE0 (omega arith), ne_eqb b 0xED (omega arith), ne_eqb b 0xF0 (omega arith), eq-eqb b 0xF4 e)

pub leads-ascii : (b : ℕ) → b < 0x80 → leads b ≡ true
unfolding leads
leads-ascii b h = rw (within_in (to 0x00 0x7F) b zero-le (le_of_suc-le-suc h))

pub leads-more : (b : ℕ) → 0xC2 ≤ b → b ≤ 0xF4 → leads b ≡ true
unfolding leads
leads-more b l h = rw (lt-leb b 0x7F (omega arith), le-leb 0xC2 b l, le-leb b 0xF4 h) (go (leb 0 b))
  where
    go : (t : Bool) → ((t && false) || (true && true)) ≡ true
    go true = refl
    go false = refl

-- ---- what is owed after three bytes: the ranges of the bytes that have to follow

abbrev Owes : ℕ → ℕ → ℕ → List Range → Type 0
Owes p3 p2 p1 [] = due p3 p2 p1 ≡ false
Owes p3 p2 p1 (r ∷ rs) = (due p3 p2 p1 ≡ true) × (follows p1 ≡ r) × ((c : ℕ) → within r c ≡ true → Owes p2 p1 c rs)

-- where ranges are owed, the bytes obey the rule if they begin with these ranges and the rest, after which nothing is owed, obeys it
paid : (rs : List Range) (s : List ℕ) (p3 p2 p1 : ℕ) (y : Bool) → Owes p3 p2 p1 rs
    → ((q3 q2 q1 : ℕ) → due q3 q2 q1 ≡ false → right_from q3 q2 q1 (drop (length rs) s) ≡ y)
    → right_from p3 p2 p1 s ≡ (begins rs s && y)
unfolding right_from begins right
paid [] s p3 p2 p1 y o k = k p3 p2 p1 o
paid (r ∷ rs) [] p3 p2 p1 y (d, f, o) k = rw d
paid (r ∷ rs) (c ∷ s) p3 p2 p1 y (d, f, o) k = rw (d, f) (step (within r c) (λ e. paid rs s p2 p1 c y (o c e) k))
  where
    step : (w : Bool) → (w ≡ true → right_from p2 p1 c s ≡ (begins rs s && y)) → (w && right_from p2 p1 c s) ≡ ((w && begins rs s) && y)
    step true h = h refl
    step false h = refl

module _ (p2 p1 b : ℕ) (closed : p1 < 0xC2) (closed' : p2 < 0xE0) where
  owes-none : b < 0x80 → Owes p2 p1 b []
  owes-none h = due-none p2 p1 b (omega arith) (omega arith) (omega arith)

  owes-one : 0xC2 ≤ b → b ≤ 0xDF → Owes p2 p1 b (tail ∷ [])
  owes-one l h = (
    due-first p2 p1 b l,
    follows-tail b (omega arith) (omega arith) (omega arith) (omega arith),
    λ c w. let (m, n) = within-bounds tail c w in due-none p1 b c (omega arith) (omega arith) (omega arith),
  )

  owes-two : (low high : ℕ) → high ≤ 0xBF → follows b ≡ to low high → 0xE0 ≤ b → b ≤ 0xEF → Owes p2 p1 b (to low high ∷ tail ∷ [])
  owes-two low high small f l h = (
    due-first p2 p1 b (omega arith),
    f,
    λ c w.
        let (m, n) = within-bounds (to low high) c w in (
          due-second p1 b c (omega arith) l,
          follows-tail c (omega arith) (omega arith) (omega arith) (omega arith),
          λ d v. let (i, j) = within-bounds tail d v in due-none b c d (omega arith) (omega arith) (omega arith),
        ),
  )

  owes-three : (low high : ℕ) → high ≤ 0xBF → follows b ≡ to low high → 0xF0 ≤ b → b ≤ 0xF4 → Owes p2 p1 b (to low high ∷ tail ∷ tail ∷ [])
  owes-three low high small f l h = (
    due-first p2 p1 b (omega arith),
    f,
    λ c w.
        let (m, n) = within-bounds (to low high) c w in (
          due-second p1 b c (omega arith) (omega arith),
          follows-tail c (omega arith) (omega arith) (omega arith) (omega arith),
          λ d v.
              let (i, j) = within-bounds tail d v in (
                due-third b c d (omega arith) (omega arith) l,
                follows-tail d (omega arith) (omega arith) (omega arith) (omega arith),
                λ e u. let (x, z) = within-bounds tail e u in due-none c d e (omega arith) (omega arith) (omega arith),
              ),
        ),
  )

-- ---- a byte and its class

-- the alternative that a class names can begin with the byte
place-opens : (alts : List (List Range)) (b n : ℕ) → place_in alts b ≡ n → n < length alts → opens (get_or alts n []) b ≡ true
unfolding place_in
place-opens [] b n e h = absurd (not-suc-le-zero h)
place-opens (rs ∷ rest) b n e h = go (opens rs b) refl e (place-opens rest b (place_in rest b) refl)
  where
    go : (t : Bool) → opens rs b ≡ t → (elim t as (λ _. ℕ) [ true ↦ 0 | false ↦ suc (place_in rest b) ]) ≡ n → (place_in rest b < length rest → opens (get_or rest (place_in rest b) []) b ≡ true) → opens (get_or (rs ∷ rest) n []) b ≡ true
    go true q z later = rw (← z) q
    go false q z later = rw (← z) (later (omega arith))

-- past all alternatives the byte can begin none
abbrev None : List (List Range) → ℕ → Type 0
None [] b = Unit {0}
None (rs ∷ rest) b = (opens rs b ≡ false) × None rest b

place_none : (alts : List (List Range)) (b n : ℕ) → place_in alts b ≡ n → length alts ≤ n → None alts b
unfolding place_in
place_none [] b n e h = tt
place_none (rs ∷ rest) b n e h = go (opens rs b) refl e (place_none rest b (place_in rest b) refl)
  where
    go : (t : Bool) → opens rs b ≡ t → (elim t as (λ _. ℕ) [ true ↦ 0 | false ↦ suc (place_in rest b) ]) ≡ n → (length rest ≤ place_in rest b → None rest b) → (opens rs b ≡ false) × None rest b
    go true q z later = absurd (omega arith)
    go false q z later = (q, later (omega arith))

-- and does not begin a character by the rule
no_lead : (b : ℕ) → None alternatives b → leads b ≡ false
unfolding leads
no_lead b (n0, (n1, (n2, (n3, (n4, (n5, (n6, (n7, (n8, _))))))))) = rw n0 (go (leb 0xC2 b) refl)
  where
    past : 0xC2 ≤ b → 0xF4 < b
    past h1 =
        let h2 = within-above (to 0xC2 0xDF) b n1 h1 in
        let h3 = within-above (to 0xE0 0xE0) b n2 h2 in
        let h4 = within-above (to 0xE1 0xEC) b n3 h3 in
        let h5 = within-above (to 0xED 0xED) b n4 h4 in
        let h6 = within-above (to 0xEE 0xEF) b n5 h5 in
        let h7 = within-above (to 0xF0 0xF0) b n6 h6 in
        let h8 = within-above (to 0xF1 0xF3) b n7 h7 in
        within-above (to 0xF4 0xF4) b n8 h8

    go : (t : Bool) → leb 0xC2 b ≡ t → (false || (t && leb b 0xF4)) ≡ false
    go false e = refl
    go true e = lt-leb b 0xF4 (past (leb-true _ _ e))

-- ---- texts

abbrev pub formed : Result (Unit {0}) Utf8Error → Bool
formed (Ok a) = true
formed (Err error) = false

-- a character whose first byte leads to the ranges rs
module _ (p3 p2 p1 at : ℕ) (shut : due p3 p2 p1 ≡ false) (b : ℕ) (s : List ℕ) where
  module _ (rs : List Range) where
    abbrev after : Bool
    after = formed (octets_from 0 (at + 1 + length rs) (drop (length rs) s))

    stepped : char_length (b ∷ s) ≡ length_after rs s → formed (octets_from 0 at (b ∷ s)) ≡ (begins rs s && after)
    unfolding octets_from length_after
    stepped e = ap (λ (m : ℕ). formed (elim m as (λ _. Result (Unit {0}) Utf8Error) [ zero ↦ ill_formed at | suc n ↦ octets_from n (at + 1) s ])) e ∙ go (begins rs s)
      where
        go : (t : Bool) → formed (elim (elim t as (λ _. ℕ) [ true ↦ suc (length rs) | false ↦ 0 ]) as (λ _. Result (Unit {0}) Utf8Error) [ zero ↦ ill_formed at | suc n ↦ octets_from n (at + 1) s ]) ≡ (t && after)
        go true = ap formed (skip (length rs) (at + 1) s)
        go false = refl

    character : char_length (b ∷ s) ≡ length_after rs s → leads b ≡ true → Owes p2 p1 b rs
        → ((q3 q2 q1 : ℕ) → due q3 q2 q1 ≡ false → right_from q3 q2 q1 (drop (length rs) s) ≡ after)
        → right_from p3 p2 p1 (b ∷ s) ≡ formed (octets_from 0 at (b ∷ s))
    unfolding right_from right
    character e l o ih = rw (shut, l) (paid rs s p2 p1 b after o ih ∙ sym (stepped e))

  no-character : char_length (b ∷ s) ≡ 0 → leads b ≡ false → right_from p3 p2 p1 (b ∷ s) ≡ formed (octets_from 0 at (b ∷ s))
  unfolding right_from right octets_from
  no-character e l = rw (shut, l) (ap (λ (m : ℕ). formed (elim m as (λ _. Result (Unit {0}) Utf8Error) [ zero ↦ ill_formed at | suc n ↦ octets_from n (at + 1) s ])) (sym e))

-- a text whose first byte is b, by the class of b, where what follows its first character agrees
module _ (p3 p2 p1 at : ℕ) (shut : due p3 p2 p1 ≡ false) (b : ℕ) (s : List ℕ)
    (rest : (k q3 q2 q1 : ℕ) → due q3 q2 q1 ≡ false → right_from q3 q2 q1 (drop k s) ≡ formed (octets_from 0 (at + 1 + k) (drop k s))) where
  facts : (p1 < 0xC2) × (p2 < 0xE0) × (p3 < 0xF0)
  facts = due-false p3 p2 p1 shut

  bounds : (k : ℕ) → class_of b ≡ k → k < 9 → opens (get_or alternatives k []) b ≡ true
  unfolding class_of
  bounds k e h = place-opens alternatives b k e h

  size : (k : ℕ) → class_of b ≡ k → char_length (b ∷ s) ≡ length_at k alternatives s
  size k e = class-length b s ∙ ap (λ (m : ℕ). length_at m alternatives s) e

  by-class : (k : ℕ) → class_of b ≡ k → right_from p3 p2 p1 (b ∷ s) ≡ formed (octets_from 0 at (b ∷ s))
  unfolding length_at class_of
  by-class zero e =
      let (l, h) = within-bounds (to 0x00 0x7F) b (bounds 0 e (omega arith)) in
      character p3 p2 p1 at shut b s [] (size 0 e) (leads-ascii b (omega arith)) (owes-none p2 p1 b facts.0 facts.1 (omega arith)) (rest 0)
  by-class (suc zero) e =
      let (l, h) = within-bounds (to 0xC2 0xDF) b (bounds 1 e (omega arith)) in
      character p3 p2 p1 at shut b s (tail ∷ []) (size 1 e) (leads-more b (omega arith) (omega arith)) (owes-one p2 p1 b facts.0 facts.1 l h) (rest 1)
  by-class (suc (suc zero)) e =
      let (l, h) = within-bounds (to 0xE0 0xE0) b (bounds 2 e (omega arith)) in
      character p3 p2 p1 at shut b s (to 0xA0 0xBF ∷ tail ∷ []) (size 2 e) (leads-more b (omega arith) (omega arith))
      (owes-two p2 p1 b facts.0 facts.1 0xA0 0xBF (omega arith) (follows-E0 b (omega arith)) (omega arith) (omega arith)) (rest 2)
  by-class (suc (suc (suc zero))) e =
      let (l, h) = within-bounds (to 0xE1 0xEC) b (bounds 3 e (omega arith)) in
      character p3 p2 p1 at shut b s (tail ∷ tail ∷ []) (size 3 e) (leads-more b (omega arith) (omega arith))
      (owes-two p2 p1 b facts.0 facts.1 0x80 0xBF (omega arith) (follows-tail b (omega arith) (omega arith) (omega arith) (omega arith)) (omega arith) (omega arith)) (rest 2)
  by-class (suc (suc (suc (suc zero)))) e =
      let (l, h) = within-bounds (to 0xED 0xED) b (bounds 4 e (omega arith)) in
      character p3 p2 p1 at shut b s (to 0x80 0x9F ∷ tail ∷ []) (size 4 e) (leads-more b (omega arith) (omega arith))
      (owes-two p2 p1 b facts.0 facts.1 0x80 0x9F (omega arith) (follows-ED b (omega arith)) (omega arith) (omega arith)) (rest 2)
  by-class (suc (suc (suc (suc (suc zero))))) e =
      let (l, h) = within-bounds (to 0xEE 0xEF) b (bounds 5 e (omega arith)) in
      character p3 p2 p1 at shut b s (tail ∷ tail ∷ []) (size 5 e) (leads-more b (omega arith) (omega arith))
      (owes-two p2 p1 b facts.0 facts.1 0x80 0xBF (omega arith) (follows-tail b (omega arith) (omega arith) (omega arith) (omega arith)) (omega arith) (omega arith)) (rest 2)
  by-class (suc (suc (suc (suc (suc (suc zero)))))) e =
      let (l, h) = within-bounds (to 0xF0 0xF0) b (bounds 6 e (omega arith)) in
      character p3 p2 p1 at shut b s (to 0x90 0xBF ∷ tail ∷ tail ∷ []) (size 6 e) (leads-more b (omega arith) (omega arith))
      (owes-three p2 p1 b facts.0 facts.1 0x90 0xBF (omega arith) (follows-F0 b (omega arith)) (omega arith) (omega arith)) (rest 3)
  by-class (suc (suc (suc (suc (suc (suc (suc zero))))))) e =
      let (l, h) = within-bounds (to 0xF1 0xF3) b (bounds 7 e (omega arith)) in
      character p3 p2 p1 at shut b s (tail ∷ tail ∷ tail ∷ []) (size 7 e) (leads-more b (omega arith) (omega arith))
      (owes-three p2 p1 b facts.0 facts.1 0x80 0xBF (omega arith) (follows-tail b (omega arith) (omega arith) (omega arith) (omega arith)) (omega arith) (omega arith)) (rest 3)
  by-class (suc (suc (suc (suc (suc (suc (suc (suc zero)))))))) e =
      let (l, h) = within-bounds (to 0xF4 0xF4) b (bounds 8 e (omega arith)) in
      character p3 p2 p1 at shut b s (to 0x80 0x8F ∷ tail ∷ tail ∷ []) (size 8 e) (leads-more b (omega arith) (omega arith))
      (owes-three p2 p1 b facts.0 facts.1 0x80 0x8F (omega arith) (follows-F4 b (omega arith)) (omega arith) (omega arith)) (rest 3)
  by-class (suc (suc (suc (suc (suc (suc (suc (suc (suc k))))))))) e =
      no-character p3 p2 p1 at shut b s (size (suc (suc (suc (suc (suc (suc (suc (suc (suc k))))))))) e ∙ length-past (suc (suc (suc (suc (suc (suc (suc (suc (suc k))))))))) alternatives s (omega arith))
      (no_lead b (place_none alternatives b (suc (suc (suc (suc (suc (suc (suc (suc (suc k))))))))) e (omega arith)))

-- that the rule and the grammar agree on a text, from a place on where nothing is open
abbrev Agree : List ℕ → Type 0
Agree s = (p3 p2 p1 at : ℕ) → due p3 p2 p1 ≡ false → right_from p3 p2 p1 s ≡ formed (octets_from 0 at s)

agree-empty : Agree []
unfolding right_from octets_from
agree-empty p3 p2 p1 at shut = rw shut

agree-more : (n : ℕ) → ((s : List ℕ) → length s ≤ n → Agree s) → (s : List ℕ) → length s ≤ suc n → Agree s
agree-more n shorter [] h p3 p2 p1 at shut = agree-empty p3 p2 p1 at shut
agree-more n shorter (b ∷ s) h p3 p2 p1 at shut =
    by-class p3 p2 p1 at shut b s (λ k q3 q2 q1 e. shorter (drop k s) (omega (arith, length-drop k s)) q3 q2 q1 (at + 1 + k) e) (class_of b) refl

pub agrees : (n : ℕ) (s : List ℕ) → length s ≤ n → Agree s
agrees zero s h = agree-more 0 (λ u l. nothing u l) s (omega arith)
  where
    nothing : (u : List ℕ) → length u ≤ 0 → Agree u
    nothing [] l = agree-empty
    nothing (b ∷ u) l = absurd (not-suc-le-zero l)
agrees (suc n) s h = agree-more n (agrees n) s h

pub rule-is-grammar : RuleIsGrammar
unfolding ruled due utf8_of
rule-is-grammar s = agrees (length s) s (omega arith) 0 0 0 0 refl ∙ told (octets_from 0 0 s) refl
  where
    told : (u : Result (Unit {0}) Utf8Error) → octets_from 0 0 s ≡ u → formed u ≡ well_formed s
    told (Ok a) e = sym (well-formed s e)
    told (Err error) e = sym (not-well-formed s error.valid_up_to e)
