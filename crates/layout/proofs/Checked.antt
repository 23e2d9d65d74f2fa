-- What a definition that may refuse says. Forwards: the step after a fault is not taken, and the step after a value has it. Backwards: where
-- there is a value, each test that was made held, each step before has a value, and the value is what follows gives.
-- Assumes nothing.
use Rattle.std.specs.Prelude.{Option, None, Some, Err, Ok, is_ok}
use Rattle.std.specs.Option.{ok_or}
use mathlib.Core.Bool.{Bool, true, false}
use mathlib.Core.Path.{◌≡◌, refl, ◌∙◌}
use Rattle.layout.specs.Checked.{Checked, check, then, taking}
use Rattle.layout.specs.declared.refusal.Refusal.{Refusal}

pub after-fault : {A B : Type 0} (c : Checked A) (next : A → Checked B) {r : Refusal} → c ≡ Err r → then c next ≡ Err r
unfolding then
after-fault c next e = rw e

pub after-good : {A B : Type 0} (c : Checked A) (next : A → Checked B) {a : A} → c ≡ Ok a → then c next ≡ next a
unfolding then
after-good c next e = rw e

pub check-passes :
    {A : Type 0} (test : Bool) (refusal : Refusal) (next : Unit {0} → Checked A) {a : A} →
    test ≡ true →
    next tt ≡ Ok a →
    check test refusal next ≡ Ok a
unfolding check
check-passes true refusal next e f = f
check-passes false refusal next e f = absurd cc

pub then-passes :
    {A B : Type 0} (c : Checked A) (next : A → Checked B) {a : A} {b : B} → c ≡ Ok a → next a ≡ Ok b → then c next ≡ Ok b
then-passes c next e f = after-good c next e ∙ f

pub check-good :
    {A : Type 0} (test : Bool) (refusal : Refusal) (next : Unit {0} → Checked A) (a : A) →
    check test refusal next ≡ Ok a →
    (test ≡ true) × (next tt ≡ Ok a)
unfolding check
check-good true refusal next a e = (refl, e)
check-good false refusal next a e = absurd cc

pub then-good :
    {A B : Type 0} (c : Checked A) (next : A → Checked B) (b : B) →
    then c next ≡ Ok b →
    (a : A) × (c ≡ Ok a) × (next a ≡ Ok b)
unfolding then
then-good (Err refusal) next b e = absurd cc
then-good (Ok a) next b e = (a, refl, e)

pub is-good : {A : Type 0} (c : Checked A) → is_ok c ≡ true → (a : A) × (c ≡ Ok a)
is-good (Err refusal) e = absurd cc
is-good (Ok a) e = (a, refl)

-- what `ok_or` refuses was not there, and the refusal is the one that it was given
pub refused-by : {A : Type 0} (o : Option A) {made : Checked A} {r s : Refusal} → made ≡ ok_or o s → made ≡ Err r → (o ≡ None) × (r ≡ s)
refused-by None is was = (refl, cc)
refused-by (Some a) is was = absurd cc

-- what is taken of a value comes from a value, and a fault from itself
pub taking-ok : {A B : Type 0} (f : A → B) (c : Checked A) (b : B) → taking f c ≡ Ok b → (a : A) × (c ≡ Ok a) × (f a ≡ b)
taking-ok f (Err refusal) b e = absurd cc
taking-ok f (Ok a) b e = (a, refl, cc)

pub taking-err : {A B : Type 0} (f : A → B) (c : Checked A) (r : Refusal) → taking f c ≡ Err r → c ≡ Err r
taking-err f (Err refusal) r e = cc
taking-err f (Ok a) r e = absurd cc
