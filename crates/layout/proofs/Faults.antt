-- Which faults a definition that may refuse can come to: those of its tests, and those of its steps.
-- Assumes nothing.
use Rattle.std.specs.Prelude.{Err, Ok}
use mathlib.Core.Bool.{Bool, true, false}
use mathlib.Core.Path.{◌≡◌, refl, subst}
use Rattle.layout.specs.Checked.{Checked, check, then}
use Rattle.layout.specs.declared.refusal.Refusal.{Refusal}

-- every fault is an allowed one
pub record Only {A : Type 0} (Allowed : Refusal → Type 0) (c : Checked A) : Type 0 where
  pub only : (r : Refusal) → c ≡ Err r → Allowed r

pub only-value : {Allowed : Refusal → Type 0} {A : Type 0} (a : A) → Only Allowed (Ok a)
only-value a = record { only = λ r e. absurd cc }

pub only-test :
    {Allowed : Refusal → Type 0} {A : Type 0} (t : Bool) (refusal : Refusal) (next : Unit {0} → Checked A) →
    Allowed refusal →
    Only Allowed (next tt) →
    Only Allowed (check t refusal next)
unfolding check
only-test true refusal next e h = h
only-test {Allowed} false refusal next e h = record { only = λ r q. let same : refusal ≡ r = cc in subst Allowed same e }

pub only_step :
    {Allowed : Refusal → Type 0} {A B : Type 0} (c : Checked A) (next : A → Checked B) →
    Only Allowed c →
    ((a : A) → Only Allowed (next a)) →
    Only Allowed (then c next)
unfolding then
only_step {Allowed} (Err r) next h k = record { only = λ q e. let same : r ≡ q = cc in subst Allowed same (h.only r refl) }
only_step (Ok a) next h k = k a
