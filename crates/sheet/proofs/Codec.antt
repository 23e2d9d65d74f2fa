-- A kind of field: how a value is shown, which fields are one, and the value that such a field has. Each is the other's inverse, and neither has a tab or
-- a newline. What holds of one field holds of a list of them.
-- Assumes nothing.
use Prim.Native.Nat.{ℕ}
use mathlib.Core.Bool.{Bool, true, and-eq-true_iff}
use mathlib.Core.List.{List, [], ◌∷◌, map}
use mathlib.Core.Path.{◌≡◌, refl, ap₂}
use Rattle.format.specs.WellFormed.{All}
use Rattle.sheet.specs.Fields.{tab, newline, all}
use Rattle.sheet.proofs.Splitting.{Free}

-- a field within a line
abbrev pub Within : List ℕ → Type 0
Within f = Free tab f × Free newline f

pub record Codec {A : Type 0} (Good : A → Type 0) (show : A → List ℕ) (is : List ℕ → Bool) (value : List ℕ → A) : Type 0 where
  pub within : (a : A) → Good a → Within (show a)
  pub one : (a : A) → Good a → is (show a) ≡ true
  pub back : (a : A) → Good a → value (show a) ≡ a
  pub good : (f : List ℕ) → is f ≡ true → Good (value f)
  pub again : (f : List ℕ) → Within f → is f ≡ true → show (value f) ≡ f

module _ {A : Type 0} {Good : A → Type 0} {show : A → List ℕ} {is : List ℕ → Bool} {value : List ℕ → A} (codec : Codec Good show is value) where
  pub all-within : (xs : List A) → All Good xs → All Within (map show xs)
  all-within [] h = tt
  all-within (a ∷ xs) (h, hs) = (codec.within a h, all-within xs hs)

  pub all_one : (xs : List A) → All Good xs → all is (map show xs) ≡ true
  unfolding all
  all_one [] h = refl
  all_one (a ∷ xs) (h, hs) = rw (codec.one a h, all_one xs hs)

  pub all_back : (xs : List A) → All Good xs → map value (map show xs) ≡ xs
  all_back [] h = refl
  all_back (a ∷ xs) (h, hs) = ap₂ (λ (x : A) (l : List A). x ∷ l) (codec.back a h) (all_back xs hs)

  pub all-good : (fs : List (List ℕ)) → all is fs ≡ true → All Good (map value fs)
  unfolding all
  all-good [] e = tt
  all-good (f ∷ fs) e =
      let (this, rest) = (and-eq-true_iff (is f) (all is fs)).0 e in
      (codec.good f this, all-good fs rest)

  pub all-again : (fs : List (List ℕ)) → All Within fs → all is fs ≡ true → map show (map value fs) ≡ fs
  unfolding all
  all-again [] h e = refl
  all-again (f ∷ fs) (h, hs) e =
      let (this, rest) = (and-eq-true_iff (is f) (all is fs)).0 e in
      ap₂ (λ (x : List ℕ) (l : List (List ℕ)). x ∷ l) (codec.again f h this) (all-again fs hs rest)
