-- Tags are told apart by their numbers.
-- Assumes nothing.
use Rattle.std.specs.Prelude.{Option, Some, None}
use mathlib.Core.Bool.{Bool, true, false}
use mathlib.Core.Path.{◌≡◌, refl, sym, ap, ◌∙◌}
use borrow.Author.Tests.{eq-eqb, ne_eqb, eqb-true}
use denote.Enum.Bare.{sameb}
use denote.Enum.Declared.{tag_of as variant_of}
use Rattle.std.specs.Option.{option_eq}
use Rattle.table.specs.contracts.tag.Tag.{the_type}
use Rattle.table.specs.Tags.{tag_of, tag_number, same_tag, entry_after, opens_section}
use Rattle.table.specs.declared.tag.Tag.{Tag}
use Rattle.table.specs.declared.tag.Tag.TheVariants.{PlainContents, PackedContents, Names, Arguments, Unknown, Content, Name, Pair}
use Rattle.table.proofs.Promises.{number-has-tag}

-- equal numbers are of equal tags
number-own : (a b : Tag) → tag_number a ≡ tag_number b → ◌≡◌ {A = Option Tag} (Some a) (Some b)
number-own a b e = sym (number-has-tag a) ∙ ap tag_of e ∙ number-has-tag b

pub same_tag_lem : (a b : Option Tag) → a ≡ b → same_tag a b ≡ true
unfolding same_tag
same_tag_lem None None e = refl
same_tag_lem None (Some b) e = cc
same_tag_lem (Some a) None e = cc
same_tag_lem (Some a) (Some b) e = let q : a ≡ b = cc in eq-eqb (tag_number a) (tag_number b) (ap tag_number q)

pub tag_same : (a b : Option Tag) → same_tag a b ≡ true → a ≡ b
unfolding same_tag
tag_same None None e = refl
tag_same None (Some b) e = cc
tag_same (Some a) None e = cc
tag_same (Some a) (Some b) e = number-own a b (eqb-true (tag_number a) (tag_number b) e)

pub other_tag : (a b : Option Tag) → (a ≡ b → ⊥) → same_tag a b ≡ false
unfolding same_tag
other_tag None None n = absurd (n refl)
other_tag None (Some b) n = refl
other_tag (Some a) None n = refl
other_tag (Some a) (Some b) n = ne_eqb (tag_number a) (tag_number b) (λ q. n (number-own a b q))

-- `a == b` of the code is the test of the definition
number-is : (t : Tag) → variant_of the_type t ≡ tag_number t
number-is PlainContents = refl
number-is PackedContents = refl
number-is Names = refl
number-is Arguments = refl
number-is Unknown = refl
number-is Content = refl
number-is Name = refl
number-is Pair = refl

pub tag_eq : (a b : Tag) → sameb the_type a b ≡ same_tag (Some a) (Some b)
unfolding same_tag
tag_eq a b = rw (number-is a, number-is b)

pub tags_eq : (a b : Option Tag) → option_eq (sameb the_type) a b ≡ same_tag a b
unfolding same_tag
tags_eq None None = refl
tags_eq None (Some b) = refl
tags_eq (Some a) None = refl
tags_eq (Some a) (Some b) = rw (number-is a, number-is b)

-- what code with `a == b` knows, as a value and in the arms of an `if`, decides the test of the definition
pub ruleset same_tags = (tag_eq, tags_eq, same_tag_lem, other_tag)

pub tag-discrete : Discrete (Option Tag)
tag-discrete a b = go (same_tag a b) refl
  where
    go : (t : Bool) → same_tag a b ≡ t → Dec (a ≡ b)
    go true e = yes (tag_same a b e)
    go false e = no (λ q. let z : same_tag a b ≡ true = same_tag_lem a b q in cc)

-- no section is an entry
pub entry-begins-none : (t : Option Tag) → opens_section (entry_after t) ≡ false
entry-begins-none None = refl
entry-begins-none (Some PlainContents) = refl
entry-begins-none (Some PackedContents) = refl
entry-begins-none (Some Names) = refl
entry-begins-none (Some Arguments) = refl
entry-begins-none (Some Unknown) = refl
entry-begins-none (Some Content) = refl
entry-begins-none (Some Name) = refl
entry-begins-none (Some Pair) = refl

-- so the tag of a section is not that of the entries after any row
pub section-no-entry : (t previous : Option Tag) → opens_section t ≡ true → t ≡ entry_after previous → ⊥
section-no-entry t previous b e =
    let other : opens_section t ≡ false = ap opens_section e ∙ entry-begins-none previous in
    absurd cc
