-- The records of a tag that stand at the start of some records: the entries that they are and how many they are, whatever they are read as, and record
-- by record; and what follows them.
-- Assumes nothing.
use Rattle.std.specs.Prelude.{Option, Some, None}
use Prim.Native.Nat.{ℕ, suc, ◌+◌, ◌≤◌}
use mathlib.Core.Bool.{true, false, and-eq-true_iff}
use mathlib.Core.List.{List, [], ◌∷◌, ◌++◌, flat_map}
use mathlib.Core.Path.{◌≡◌, refl, sym, ap, ◌∙◌}
use native.Mathlib.Omega.{arith}
use lib.ListN.{length, length-append}
use Rattle.wire.specs.Length.{wire_size}
use Rattle.wire.proofs.PaddingLaws.{le-aligned}
use Rattle.layout.proofs.Lists.{flat_map-least}
use Rattle.table.specs.Tags.{same_tag, entry_tag, entry_after, opens_section}
use Rattle.table.specs.declared.tag.Tag.{Tag}
use Rattle.table.specs.declared.tag.Tag.TheVariants as tag
use Rattle.table.proofs.Leading.{leading-count, leading-bytes}
use Rattle.table.proofs.Tags.{tag_same, same_tag_lem, other_tag, tag-discrete, section-no-entry}
use Rattle.format.specs.Encoding.{content_entry, name_entry, pair_entry}
use Rattle.format.specs.Records.{Record, text, name_of, pair_of, leading, begun, is_placed, in_order, sections}
use Rattle.format.specs.Sections.{Name, Pair, Section}
use Rattle.format.proofs.Encoding.{length-content_entry, length-name_entry, length-pair_entry}
use Rattle.format.proofs.Records.{Placed, placed, begins, entry, begins-none, leading-no-tag}
use Rattle.format.proofs.RecordsByTag.{leading-more, leading-ends}
use Rattle.from_sheet.specs.Run.{entry_bytes, run, run_bytes, past}

-- ---- record by record

module _ (t : Option Tag) where
  -- what is known of a run where no record is left
  pub run_none : (run t [] ≡ []) × (run_bytes t [] ≡ []) × (past t [] ≡ [])
  unfolding leading run_bytes past flat_map
  run_none = (refl, refl, refl)

  module _ (r : Record) (rs : List Record) where
    pub run_more :
        same_tag (Some r.tag) t ≡ true →
        (run t (r ∷ rs) ≡ r ∷ run t rs) × (run_bytes t (r ∷ rs) ≡ entry_bytes r.tag r ++ run_bytes t rs) × (past t (r ∷ rs) ≡ past t rs)
    unfolding run_bytes past flat_map
    run_more e =
        let more = leading-more t (λ (r : Record). r) r rs (tag_same (Some r.tag) t e) in
        (more, rw more, rw (e, past))

    pub run-stops : same_tag (Some r.tag) t ≡ false → (run t (r ∷ rs) ≡ []) × (run_bytes t (r ∷ rs) ≡ []) × (past t (r ∷ rs) ≡ r ∷ rs)
    unfolding run_bytes past flat_map
    run-stops e =
        let none = leading-ends t (λ (r : Record). r) r rs (λ q. cc (same_tag_lem (Some r.tag) t q)) in
        (none, rw none, rw (e, past))

-- what the first of some records adds, where it has the tag
pub record More (t : Option Tag) (r : Record) (rs all : List Record) : Type 0 where
  pub many : length (run t all) ≡ suc (length (run t rs))
  pub bytes : run_bytes t all ≡ entry_bytes r.tag r ++ run_bytes t rs
  pub size : length (run_bytes t all) ≡ length (entry_bytes r.tag r) + length (run_bytes t rs)
  pub after : past t all ≡ past t rs

pub more : (t : Option Tag) (r : Record) (rs : List Record) {all : List Record} → Some r.tag ≡ t → all ≡ r ∷ rs → More t r rs all
more t r rs e is =
    let (many, bytes, after) = run_more t r rs (same_tag_lem (Some r.tag) t e) in
    let joined = ap (run_bytes t) is ∙ bytes in
    record {
      many = ap (λ (l : List Record). length (run t l)) is ∙ ap length many;
      bytes = joined;
      size = ap length joined ∙ length-append (entry_bytes r.tag r) (run_bytes t rs);
      after = ap (past t) is ∙ after;
    }

-- where none has it
pub no-run : (t : Option Tag) (rs : List Record) → run t rs ≡ [] → (run_bytes t rs ≡ []) × (past t rs ≡ rs)
no-run t [] e = ((run_none t).1, (run_none t).2)
no-run t (r ∷ rs) e =
    elim (tag-discrete (Some r.tag) t) [
      | yes q ↦ let some = (run_more t r rs (same_tag_lem (Some r.tag) t q)).0 in absurd (omega (arith, ap length some, ap length e))
      | no n ↦ let stops = run-stops t r rs (other_tag (Some r.tag) t n) in (stops.1, stops.2)
    ]

-- ---- whatever the records are read as

-- f reads a record of the tag, and g writes what f read
run-leading :
    {A : Type 0} (t : Tag) (f : Record → A) (g : A → List ℕ) →
    ((r : Record) → r.tag ≡ t → entry_bytes r.tag r ≡ g (f r)) →
    (rs : List Record) →
    run_bytes (Some t) rs ≡ flat_map g (leading (Some t) f rs)
unfolding run_bytes leading
run-leading t f g h rs = leading-bytes _ (Some t) f (λ (r : Record). entry_bytes r.tag r) g (λ r q. h r (cc)) rs

module _ (rs : List Record) where
  pub run-contents : run_bytes (Some tag.Content) rs ≡ flat_map content_entry (leading (Some tag.Content) (text 0) rs)
  unfolding entry_bytes
  run-contents = run-leading tag.Content (text 0) content_entry (λ r q. rw q) rs

  pub run-names : run_bytes (Some tag.Name) rs ≡ flat_map name_entry (leading (Some tag.Name) name_of rs)
  unfolding entry_bytes
  run-names = run-leading tag.Name name_of name_entry (λ r q. rw q) rs

  pub run-pairs : run_bytes (Some tag.Pair) rs ≡ flat_map pair_entry (leading (Some tag.Pair) pair_of rs)
  unfolding entry_bytes
  run-pairs = run-leading tag.Pair pair_of pair_entry (λ r q. rw q) rs

-- nothing is an entry of no tag
pub past-no-tag : (rs : List Record) → (run None rs ≡ []) × (past None rs ≡ rs)
unfolding past same_tag
past-no-tag [] = (leading-no-tag (λ (r : Record). r) [], refl)
past-no-tag (r ∷ rs) = (leading-no-tag (λ (r : Record). r) (r ∷ rs), refl)

-- ---- there are no more entries than bytes of them

content-least : (text : List ℕ) → 1 ≤ length (content_entry text)
content-least text = omega (arith, length-content_entry text, le-aligned (12 + wire_size (length text)))

name-least : (n : Name) → 1 ≤ length (name_entry n)
name-least n = omega (arith, length-name_entry n, le-aligned (16 + wire_size (length n.text)))

pair-least : (p : Pair) → 1 ≤ length (pair_entry p)
pair-least p = omega (arith, length-pair_entry p)

module _ (rs : List Record) where
  as-many :
      {A : Type 0} (t : Option Tag) (f : Record → A) (g : A → List ℕ) →
      ((a : A) → 1 ≤ length (g a)) →
      run_bytes t rs ≡ flat_map g (leading t f rs) →
      length (run t rs) ≤ length (run_bytes t rs)
  unfolding leading
  as-many t f g least is =
      let many : length (leading t f rs) ≡ length (run t rs) = leading-count _ t f rs in
      omega (arith, ap length is, many, flat_map-least g least (leading t f rs))

  contents-many : length (run (Some tag.Content) rs) ≤ length (run_bytes (Some tag.Content) rs)
  contents-many = as-many (Some tag.Content) (text 0) content_entry content-least (run-contents rs)

  names-many : length (run (Some tag.Name) rs) ≤ length (run_bytes (Some tag.Name) rs)
  names-many = as-many (Some tag.Name) name_of name_entry name-least (run-names rs)

  pairs-many : length (run (Some tag.Pair) rs) ≤ length (run_bytes (Some tag.Pair) rs)
  pairs-many = as-many (Some tag.Pair) pair_of pair_entry pair-least (run-pairs rs)

  none-many : length (run None rs) ≤ length (run_bytes None rs)
  none-many = rw (past-no-tag rs).0 (omega arith)

  pub run-many : (t : Tag) → length (run (entry_tag t) rs) ≤ length (run_bytes (entry_tag t) rs)
  run-many tag.PlainContents = contents-many
  run-many tag.PackedContents = none-many
  run-many tag.Names = names-many
  run-many tag.Arguments = pairs-many
  run-many tag.Unknown = none-many
  run-many tag.Content = contents-many
  run-many tag.Name = names-many
  run-many tag.Pair = pairs-many

-- ---- what follows a run

-- its records begin no section
pub past-sections : (t : Option Tag) → opens_section t ≡ false → (rs : List Record) → sections (past t rs) ≡ sections rs
unfolding sections
past-sections t b [] = rw (run_none t).2
past-sections t b (r ∷ rs) =
    let rest = past-sections t b rs in
    elim (tag-discrete (Some r.tag) t) [
      | yes q ↦
          let none : begun r.tag r rs ≡ [] = begins-none r.tag (ap opens_section q ∙ b) r rs in
          ap sections (run_more t r rs (same_tag_lem (Some r.tag) t q)).2 ∙ rest ∙ ap (λ (l : List Section). l ++ sections rs) (sym none)
      | no n ↦ ap sections (run-stops t r rs (other_tag (Some r.tag) t n)).2
    ]

-- what follows the entries of what stands before the records is a section's, or nothing
pub past-order : (previous : Option Tag) (rs : List Record) → in_order previous rs ≡ true → in_order None (past (entry_after previous) rs) ≡ true
unfolding in_order
past-order previous [] h = rw (run_none (entry_after previous)).2
past-order previous (r ∷ rs) h =
    let (here, rest) = (and-eq-true_iff (is_placed previous r.tag) (in_order (Some r.tag) rs)).0 h in
    go (placed previous r.tag here) rest (past-order (Some r.tag) rs rest)
  where
    go :
        Placed previous r.tag →
        in_order (Some r.tag) rs ≡ true →
        in_order None (past (entry_tag r.tag) rs) ≡ true →
        in_order None (past (entry_after previous) (r ∷ rs)) ≡ true
    go (begins b) order more =
        let stays = (run-stops (entry_after previous) r rs (other_tag (Some r.tag) (entry_after previous) (section-no-entry (Some r.tag) previous b))).2 in
        rw (stays, b) order
    go (entry b e fixed) order more =
        let goes = (run_more (entry_after previous) r rs (same_tag_lem (Some r.tag) (entry_after previous) (sym e))).2 in
        ap (in_order None) (goes ∙ ap (λ (t : Option Tag). past t rs) (e ∙ sym fixed)) ∙ more

pub past-fewer : (t : Option Tag) (rs : List Record) → length (past t rs) ≤ length rs
past-fewer t [] = rw (run_none t).2 (omega arith)
past-fewer t (r ∷ rs) =
    let rest = past-fewer t rs in
    elim (tag-discrete (Some r.tag) t) [
      | yes q ↦ rw (run_more t r rs (same_tag_lem (Some r.tag) t q)).2 (omega arith)
      | no n ↦ rw (run-stops t r rs (other_tag (Some r.tag) t n)).2 (omega arith)
    ]
