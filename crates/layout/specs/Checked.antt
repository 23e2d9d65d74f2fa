-- A value, or the first fault that was found on the way to it.
use Rattle.std.specs.Prelude.{Bool, true, false, Result, Ok, Err}
use Rattle.layout.specs.declared.refusal.Refusal.{Refusal}

abbrev pub Checked : Type 0 → Type 0
Checked A = Result A Refusal

-- goes on where the test holds, else refuses
unfoldable pub check : {A : Type 0} → Bool → Refusal → (Unit {0} → Checked A) → Checked A
check true refusal next = next tt
check false refusal next = Err refusal

-- goes on with the value, or keeps the fault
unfoldable pub then : {A B : Type 0} → Checked A → (A → Checked B) → Checked B
then (Err refusal) next = Err refusal
then (Ok a) next = next a

-- what is taken of the value; a fault stays
abbrev pub taking : {A B : Type 0} → (A → B) → Checked A → Checked B
taking f (Err refusal) = Err refusal
taking f (Ok a) = Ok (f a)
