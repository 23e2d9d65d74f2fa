-- The size of a section, from the lengths of its record and of the records of its entries.
-- Assumes nothing.
use Rattle.std.specs.Prelude.{Option, Some, None}
use Prim.Native.Nat.{ℕ, ◌+◌, ◌≤◌}
use mathlib.Core.Bool.{true}
use mathlib.Core.List.{List, [], ◌∷◌, flat_map}
use mathlib.Core.Path.{◌≡◌, refl, ap, ◌∙◌}
use native.Mathlib.Omega.{arith}
use borrow.Author.Tests.{leb-true, le-leb}
use lib.ListN.{length, length-append}
use Rattle.std.specs.List.{sum}
use Rattle.std.proofs.lemmas.List.Sums.{sum_by-cons}
use Rattle.wire.specs.Padding.{aligned}
use Rattle.table.specs.Tags.{entry_tag, begins_section}
use Rattle.table.specs.declared.tag.Tag.{Tag}
use Rattle.table.specs.declared.tag.Tag.TheVariants as tag
use Rattle.table.proofs.Tags.{tag-discrete}
use Rattle.format.specs.Encoding.{content_entry, name_entry, pair_entry, stored_bytes, encode_section, countable}
use Rattle.format.specs.Records.{Record, number, text, name_of, pair_of, leading, begun}
use Rattle.format.specs.Sections.{Name, Section, plain, packed, names, arguments, unknown}
use Rattle.format.proofs.Encoding.{length-content_entry, length-name_entry, length-pair_entry}
use Rattle.format.proofs.Records.{leading-no-tag}
use Rattle.format.proofs.RecordsByTag.{leading-more, leading-ends}
use Rattle.format.proofs.SectionBytes.{length-section}
use Rattle.sizes.specs.Measure.{opened, added, count_limit, widest}

-- what a record of a tag opens, and what a record adds
abbrev pub opens : Tag → Record → ℕ
opens t r = opened t (length (text 0 r))

abbrev pub adds : Record → ℕ
adds r = added r.tag (length (text 0 r)) (length (text 1 r))

-- ---- sums of entries

-- what the entries of a tag at the start of some records add
unfoldable pub entries_size : Option Tag → List Record → ℕ
entries_size t rs = sum (leading t adds rs)

entries-length :
    {A : Type 0} (t : Tag) (f : Record → A) (bytes : A → List ℕ) →
    ((r : Record) → r.tag ≡ t → length (bytes (f r)) ≡ adds r) →
    (rs : List Record) →
    length (flat_map bytes (leading (Some t) f rs)) ≡ entries_size (Some t) rs
unfolding flat_map entries_size
entries-length t f bytes same [] = unfold leading in refl
entries-length t f bytes same (r ∷ rs) =
    let rest = entries-length t f bytes same rs in
    elim (tag-discrete (Some r.tag) (Some t)) [
      | yes q ↦
          rw (leading-more (Some t) f r rs q, leading-more (Some t) adds r rs q)
          (omega (arith, rest, same r (cc), length-append (bytes (f r)) (flat_map bytes (leading (Some t) f rs)), sum_by-cons (λ n. n) (adds r) (leading (Some t) adds rs)))
      | no n ↦ rw (leading-ends (Some t) f r rs n, leading-ends (Some t) adds r rs n)
    ]

-- where no entries may stand, there are none that add anything
pub none-add : (rs : List Record) → entries_size None rs ≡ 0
unfolding entries_size
none-add rs = ap sum (leading-no-tag adds rs)

-- ---- a section's size, from its record and its entries

-- what a record of a tag begins: one section, its size, and whether its entry bytes can be counted
pub record Begins (t : Tag) (r : Record) (rs : List Record) : Type 0 where
  pub is : Section
  pub one : begun t r rs ≡ is ∷ []
  pub size : length (encode_section is) ≡ aligned (opens t r + entries_size (entry_tag t) rs)
  pub narrow : countable is ≡ true → entry_tag t ≡ Some tag.Name → opens t r + entries_size (entry_tag t) rs ≤ widest
  pub counted : (entry_tag t ≡ Some tag.Name → opens t r + entries_size (entry_tag t) rs ≤ widest) → countable is ≡ true

pub begins : (t : Tag) (r : Record) (rs : List Record) → begins_section t ≡ true → Begins t r rs
unfolding begun opened added stored_bytes countable
begins tag.PlainContents r rs low =
    let run = entries-length tag.Content (text 0) content_entry (λ q e. rw e (length-content_entry (text 0 q))) rs in
    let s : Section = plain (number 0 r) (leading (Some tag.Content) (text 0) rs) in
    record { is = s; one = refl; size = length-section s ∙ rw run; narrow = λ f q. cc; counted = λ f. refl }
begins tag.PackedContents r rs low =
    let s : Section = packed (number 0 r) (text 0 r) (number 1 r) (number 2 r) in
    let all : 28 + length (text 0 r) ≡ 28 + length (text 0 r) + entries_size None rs = omega (arith, none-add rs) in
    record { is = s; one = refl; size = length-section s ∙ ap aligned all; narrow = λ f q. cc; counted = λ f. refl }
begins tag.Names r rs low =
    let run = entries-length tag.Name name_of name_entry (λ q e. rw e (length-name_entry (name_of q))) rs in
    let ns : List Name = leading (Some tag.Name) name_of rs in
    let s : Section = names ns in
    record {
      is = s;
      one = refl;
      size = length-section s ∙ rw run;
      narrow = λ f q. omega (arith, run, leb-true (length (flat_map name_entry ns)) count_limit f);
      counted = λ f. le-leb (length (flat_map name_entry ns)) count_limit (omega (arith, run, f refl));
    }
begins tag.Arguments r rs low =
    let run = entries-length tag.Pair pair_of pair_entry (λ q e. rw e (length-pair_entry (pair_of q))) rs in
    let s : Section = arguments (leading (Some tag.Pair) pair_of rs) in
    record { is = s; one = refl; size = length-section s ∙ rw run; narrow = λ f q. cc; counted = λ f. refl }
begins tag.Unknown r rs low =
    let s : Section = unknown (number 0 r) (text 0 r) in
    let all : 8 + length (text 0 r) ≡ 8 + length (text 0 r) + entries_size None rs = omega (arith, none-add rs) in
    record { is = s; one = refl; size = length-section s ∙ ap aligned all; narrow = λ f q. cc; counted = λ f. refl }
begins tag.Content r rs low = cc
begins tag.Name r rs low = cc
begins tag.Pair r rs low = cc
