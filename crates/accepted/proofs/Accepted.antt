-- The sections of a payload that was checked: what is told of each, and of all of them.
-- Assumes nothing.
use Rattle.std.proofs.Common.{◌≡◌, ℕ, zero, suc, ◌+◌, ◌-◌, ◌<◌, ◌≤◌, List, ◌++◌, length, length-append, cond, is_ok, true, refl, sym, ap, ◌∙◌, arith}
use Rattle.std.proofs.lemmas.List.{length-map}
use Rattle.std.proofs.lemmas.List.Sums.{sum_by-cons}
use Rattle.std.specs.List.{count_by}
use mathlib.Core.List.{flat_map}
use Rattle.layout.specs.Kinds.{known}
use Rattle.layout.proofs.Checked.{is-good}
use Rattle.layout.proofs.Lists.{flat_map-append}
use Rattle.layout.specs.declared.section_type.SourceInfoSectionType.{SourceInfoSectionType}
use Rattle.wire.specs.Number.{u16_at, u32_at}
use Rattle.format.specs.Encoding.{limit}
use Rattle.format.specs.Parse.{kind_at, parse_section, parse_sections, parse}
use Rattle.format.specs.Walk.{places_from}
use Rattle.format.proofs.SectionLaws.{sections-good, parse-good}
use Rattle.format.proofs.Walking.{length-places}
use Rattle.accepted.specs.Sections.{Found, section_at, sections_from}

-- of sections that are good, the first, which ends within the payload, and those after it
pub record Good (p : List ℕ) (left at : ℕ) : Type 0 where
  pub headed : 8 ≤ u32_at p at
  pub within : at + u32_at p at ≤ length p
  pub first : is_ok (parse_section (kind_at p at) p at (u32_at p at)) ≡ true
  pub others : is_ok (parse_sections (left - 1) p (at + u32_at p at)) ≡ true

module _ (p : List ℕ) where
  -- an accepted payload is within the limit, and its sections are good
  pub whole : is_ok (parse p) ≡ true → (length p ≤ limit) × (is_ok (parse_sections (u16_at p 6) p 8) ≡ true)
  whole accepted =
      let (rows, found) = is-good (parse p) accepted in
      let told = parse-good p rows found in
      (told.0, ap is_ok told.1)

  pub next-good : (left at : ℕ) → 0 < left → is_ok (parse_sections left p at) ≡ true → Good p left at
  next-good zero at more good = absurd (omega arith)
  next-good (suc left) at more good =
      let (rows, found) = is-good (parse_sections (suc left) p at) good in
      let told = sections-good p at left rows found in
      let fewer : suc left - 1 ≡ left = omega arith in
      record { headed = told.header; within = told.within; first = ap is_ok told.first_good; others = rw fewer (ap is_ok told.rest-good) }

  pub as_many : (count at : ℕ) → length (sections_from p count at) ≡ count
  unfolding sections_from
  as_many count at = length-map (places_from p count at) (section_at p) ∙ length-places p count at

  -- what is taken of each section, by the walk
  module _ {A : Type 0} (taken : List ℕ → SourceInfoSectionType → ℕ → List A) where
    pub taken-walked :
        (count at : ℕ) →
        flat_map (λ (s : Found). taken s.bytes s.kind s.at) (sections_from p count at) ≡ flat_map (λ place. taken p (kind_at p place) place) (places_from p count at)
    unfolding sections_from places_from flat_map
    taken-walked zero at = refl
    taken-walked (suc count) at = rw (taken-walked count (at + u32_at p at)) refl

    -- and what is made of all that is taken
    pub made-walked :
        {B : Type 0} (make : A → List B) (count at : ℕ) →
        flat_map (λ (s : Found). flat_map make (taken s.bytes s.kind s.at)) (sections_from p count at)
        ≡ flat_map make (flat_map (λ place. taken p (kind_at p place) place) (places_from p count at))
    unfolding sections_from places_from flat_map
    made-walked make zero at = refl
    made-walked make (suc count) at =
        let next : ℕ = at + u32_at p at in
        let here : List A = taken p (kind_at p at) at in
        ap (λ rest. flat_map make here ++ rest) (made-walked make count next) ∙
        sym (flat_map-append make here (flat_map (λ place. taken p (kind_at p place) place) (places_from p count next)))

  -- where as many are taken of each section as its kind is known, one or none, the known sections are as many as are taken of all
  module _ {A : Type 0} (taken_at : ℕ → List A) (one : (at : ℕ) → length (taken_at at) ≡ cond (known (kind_at p at)) 1 0) where
    pub known-many : (count at : ℕ) → count_by (λ (s : Found). known s.kind) (sections_from p count at) ≡ length (flat_map taken_at (places_from p count at))
    unfolding sections_from places_from flat_map
    known-many zero at = refl
    known-many (suc count) at =
        let next : ℕ = at + u32_at p at in
        let rest : List A = flat_map taken_at (places_from p count next) in
        let more = sum_by-cons (λ (s : Found). cond (known s.kind) 1 0) (section_at p at) (sections_from p count next) in
        omega (arith, more, one at, known-many count next, length-append (taken_at at) rest)
