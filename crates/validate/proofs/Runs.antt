-- What holds of every place below one is carried on over a block; and a run of ASCII at its start keeps the answer for a text.
-- Assumes nothing.
use Rattle.std.specs.Prelude.{◌≡◌, ℕ, ◌+◌, ◌-◌, ◌<◌, ◌≤◌, List, length, get_or, drop}
use mathlib.Core.Path.{◌∙◌, ap, subst}
use native.Mathlib.Decide.{dec_lt}
use native.Mathlib.Omega.{arith}
use Rattle.utf8.specs.Rfc3629.{octets_from, utf8_of}
use Rattle.utf8.proofs.Octets.{ascii_run}

pub below-block : (P : ℕ → Type 0) (i n : ℕ) → ((k : ℕ) → k < i → P k) → ((j : ℕ) → j < n → P (i + j)) → (k : ℕ) → k < i + n → P k
below-block P i n all block k l =
    elim (dec_lt k i) [
      | yes h ↦ all k h
      | no h ↦ let e : i + (k - i) ≡ k = omega arith in subst P e (block (k - i) (omega arith))
    ]

pub ascii-between : (s : List ℕ) (i r : ℕ) → i ≤ r → r ≤ length s → ((k : ℕ) → k < r → i ≤ k → get_or s k 0 < 0x80) → octets_from 0 r (drop r s) ≡ octets_from 0 i (drop i s)
ascii-between s i r h l a =
    let e : r ≡ i + (r - i) = omega arith in
    ap (λ (m : ℕ). octets_from 0 m (drop m s)) e ∙ ascii_run s i (r - i) (omega arith) (λ k m. a (i + k) (omega arith) (omega arith))

-- reading on from the end of the ASCII that a text begins with
pub after-ascii : (s : List ℕ) (at : ℕ) → at ≤ length s → ((k : ℕ) → k < at → get_or s k 0 < 0x80) → octets_from 0 at (drop at s) ≡ utf8_of s
unfolding utf8_of
after-ascii s at h a = ascii-between s 0 at (omega arith) h (λ k l m. a k l)
