-- The walk over sections comes to each section where it stands. What a pass takes at the places of a payload is then, section by section, what a
-- definition has for the sections: one law, whatever the pass takes.
-- Assumes nothing.
use Prim.Native.Nat.{ℕ, ◌+◌, ◌≤◌}
use mathlib.Core.Bool.{true, and-eq-true_iff}
use mathlib.Core.List.{List, [], ◌∷◌, ◌++◌, map, flat_map}
use mathlib.Core.Path.{◌≡◌, refl, ap₂}
use native.Mathlib.Omega.{arith}
use lib.ListN.{length, length-append}
use Rattle.wire.specs.Padding.{aligned}
use Rattle.table.specs.declared.row.Row.{Row}
use Rattle.format.specs.Encoding.{limit, kind_of, encode_section, encode, all_countable, within_limits}
use Rattle.format.specs.Parse.{kind_at}
use Rattle.format.specs.Sections.{Section}
use Rattle.format.specs.Walk.{places_from, places}
use Rattle.format.specs.WellFormed.{All, WellFormed}
use Rattle.format.proofs.Encoding.{limits-good, length-encode}
use Rattle.format.proofs.PayloadRead.{main-header}
use Rattle.format.proofs.PayloadStands.{Payload}
use Rattle.format.proofs.SectionBytes.{filled, length-section, SectionAt, stands-section}
use Rattle.format.proofs.SectionFields.{Fields, section-fields, known-kind, kind-found}
use Rattle.format.proofs.Stands.{Stands, stands-first, stands-next}

-- ---- two lists of one length

-- their elements are related, one by one
abbrev pub Paired : {A B : Type 0} → (A → B → Type 0) → List A → List B → Type 0
Paired R [] [] = Unit {0}
Paired R [] (y ∷ ys) = ⊥
Paired R (x ∷ xs) [] = ⊥
Paired R (x ∷ xs) (y ∷ ys) = R x y × Paired R xs ys

module _ {A B C : Type 0} (R : A → B → Type 0) where
  pub paired-map : (f : A → C) (g : B → C) → ((x : A) (y : B) → R x y → f x ≡ g y) → (xs : List A) (ys : List B) → Paired R xs ys → map f xs ≡ map g ys
  paired-map f g same [] [] h = refl
  paired-map f g same [] (y ∷ ys) h = absurd h
  paired-map f g same (x ∷ xs) [] h = absurd h
  paired-map f g same (x ∷ xs) (y ∷ ys) (here, rest) = ap₂ (λ (c : C) (l : List C). c ∷ l) (same x y here) (paired-map f g same xs ys rest)

  pub paired-flat_map :
      (f : A → List C) (g : B → List C) → ((x : A) (y : B) → R x y → f x ≡ g y) → (xs : List A) (ys : List B) → Paired R xs ys → flat_map f xs ≡ flat_map g ys
  unfolding flat_map
  paired-flat_map f g same [] [] h = refl
  paired-flat_map f g same [] (y ∷ ys) h = absurd h
  paired-flat_map f g same (x ∷ xs) [] h = absurd h
  paired-flat_map f g same (x ∷ xs) (y ∷ ys) (here, rest) = ap₂ (λ (l m : List C). l ++ m) (same x y here) (paired-flat_map f g same xs ys rest)

-- ---- the sections of a payload

-- what is known at the place of a section
pub record Here (p : List ℕ) (at : ℕ) (s : Section) : Type 0 where
  pub ok : WellFormed s
  pub within : at + length (encode_section s) ≤ length p
  pub small : length p ≤ limit
  pub stand : Stands p at (encode_section s)
  pub parts : SectionAt p at s
  pub kind : kind_at p at ≡ kind_of s
  pub fields : Fields p at s

sections-here :
    (p : List ℕ) →
    length p ≤ limit →
    (ss : List Section) (at : ℕ) →
    All WellFormed ss →
    all_countable ss ≡ true →
    at + length (flat_map encode_section ss) ≤ length p →
    Stands p at (flat_map encode_section ss) →
    Paired (Here p) (places_from p (length ss) at) ss
unfolding places_from flat_map all_countable
sections-here p small [] at ok fit within stand = tt
sections-here p small (s ∷ ss) at (ok, oks) fit within stand =
    let (this, others) = simp and-eq-true_iff at fit in
    let spans : length (encode_section s) ≡ aligned (filled s) = length-section s in
    let sum = length-append (encode_section s) (flat_map encode_section ss) in
    let inside : at + aligned (filled s) ≤ length p = omega arith in
    let here = stands-first p at (encode_section s) (flat_map encode_section ss) stand in
    let g = stands-section p at s inside small (known-kind s ok) here in
    let next : ℕ = at + aligned (filled s) in
    let rest = sections-here p small ss next oks others (omega arith) (stands-next p at (encode_section s) (flat_map encode_section ss) next (omega arith) stand) in
    rw g.size (
      record {
        ok = ok;
        within = omega arith;
        small = small;
        stand = here;
        parts = g;
        kind = kind-found p at s ok g;
        fields = section-fields p small at s ok this inside g.header;
      },
      rest,
    )

-- of a payload that is the encoding of sections
pub encoded-here : (ss : List Section) → All WellFormed ss → within_limits ss ≡ true → Paired (Here (encode ss)) (places (encode ss)) ss
unfolding places
encoded-here ss ok fit =
    let (few, countable, small) = limits-good ss fit in
    let (long, flags, many, stand) = main-header ss fit in
    rw many (sections-here (encode ss) small ss 8 ok countable (omega (arith, length-encode ss)) stand)

-- of an accepted one
pub payload-here : (p : List ℕ) (rows : List Row) → (all : Payload p rows) → Paired (Here p) (places p) all.sections
payload-here p rows all = rw all.is at (encoded-here all.sections all.ok all.fit)
