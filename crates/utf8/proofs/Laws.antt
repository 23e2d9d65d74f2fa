-- What a caller of `validate::validate` may want to know: that text is well formed just where it answers so, and that
-- empty text and text of ASCII alone are.
-- Assumes nothing.
use Rattle.std.specs.Prelude.{Ok}
use mathlib.Core.Path.{◌≡◌, refl, sym, ◌∙◌}
use mathlib.Core.Bool.{true, false}
use mathlib.Core.List.{List, []}
use Prim.Native.Nat.{ℕ, ◌+◌, ◌<◌}
use native.Mathlib.Nat.{zero-add}
use native.Mathlib.Omega.{arith}
use lib.ListN.{length, get_or}
use Rattle.utf8.specs.Rfc3629.{octets_from, utf8_of, well_formed, ill_formed}
use Rattle.utf8.proofs.Octets.{ascii_run, ended}

pub well-formed : (s : List ℕ) → utf8_of s ≡ Ok tt → well_formed s ≡ true
unfolding well_formed
well-formed s e = rw e

pub not-well-formed : (s : List ℕ) (at : ℕ) → utf8_of s ≡ ill_formed at → well_formed s ≡ false
unfolding well_formed
not-well-formed s at e = rw e

pub empty : well_formed [] ≡ true
unfolding well_formed utf8_of octets_from
empty = refl

-- every byte is below 80: the whole text is one run of ASCII
pub ascii-well-formed : (s : List ℕ) → ((k : ℕ) → k < length s → get_or s k 0 < 0x80) → well_formed s ≡ true
ascii-well-formed s a =
    well-formed s
    (unfold utf8_of in
    (sym (ascii_run s 0 (length s) (omega arith) (λ k h. rw zero-add (a k h))) ∙ ended s (0 + length s) (omega arith)))
