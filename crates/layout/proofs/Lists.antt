-- What the laws of rows and of the encoding need of `flat_map`.
use Prim.Native.Nat.{◌%◌, ◌≤◌}
use native.Mathlib.Omega.{arith}
use mathlib.Core.Path.{◌≡◌, refl, sym, ap, ◌∙◌}
use mathlib.Core.List.{List, [], ◌∷◌, ◌++◌, map, flat_map, append_assoc, map-append}
use lib.ListN.{length, length-append}

module _ {A B : Type 0} (f : A → List B) where
  pub flat_map-append : (a b : List A) → flat_map f (a ++ b) ≡ flat_map f a ++ flat_map f b
  unfolding flat_map
  flat_map-append [] b = refl
  flat_map-append (x ∷ a) b = ap (λ (l : List B). f x ++ l) (flat_map-append a b) ∙ sym (append_assoc (f x) (flat_map f a) (flat_map f b))

  -- parts that are multiples of 4 make a multiple of 4
  pub flat_map-multiple : ((x : A) → length (f x) % 4 ≡ 0) → (a : List A) → length (flat_map f a) % 4 ≡ 0
  unfolding flat_map
  flat_map-multiple h [] = refl
  flat_map-multiple h (x ∷ a) = rw length-append (omega (arith, h x, flat_map-multiple h a))

  -- parts that are not empty are no more than what they make
  pub flat_map-least : ((x : A) → 1 ≤ length (f x)) → (a : List A) → length a ≤ length (flat_map f a)
  unfolding flat_map
  flat_map-least h [] = omega arith
  flat_map-least h (x ∷ a) = rw length-append (omega (arith, h x, flat_map-least h a))

  -- a function of each part, and of all of them
  pub map-flat_map : {C : Type 0} (g : B → C) (l : List A) → flat_map (λ (x : A). map g (f x)) l ≡ map g (flat_map f l)
  unfolding flat_map
  map-flat_map g [] = refl
  map-flat_map {C} g (x ∷ l) = ap (λ (t : List C). map g (f x) ++ t) (map-flat_map g l) ∙ sym (map-append g (f x) (flat_map f l))

pub flat_map-map : {A B C : Type 0} (g : B → List C) (f : A → B) (l : List A) → flat_map g (map f l) ≡ flat_map (λ (x : A). g (f x)) l
unfolding flat_map
flat_map-map g f [] = refl
flat_map-map {C = C} g f (x ∷ l) = ap (λ (t : List C). g (f x) ++ t) (flat_map-map g f l)
