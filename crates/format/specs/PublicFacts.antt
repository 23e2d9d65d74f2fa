-- The public facts of an accepted payload, taken from its bytes by the layout: sections by their size fields, entries by theirs, with
-- the count fields. Nothing here speaks of rows or of the public copy.
use Rattle.std.specs.Prelude.{ℕ, zero, suc, ◌+◌, ◌-◌, Bool, true, false, List, [], ◌∷◌, ◌++◌, eqb, length, drop}
use Rattle.find.specs.Nul.{until_nul}
use Rattle.wire.specs.Number.{u16_at, u32_at}
use Rattle.layout.specs.Kinds.{section_type}
use Rattle.layout.specs.Spans.{part}
use Rattle.layout.specs.declared.section_type.SourceInfoSectionType.{SourceInfoSectionType}
use Rattle.layout.specs.declared.section_type.SourceInfoSectionType.TheVariants.{SourceContents, SourceNames, Arguments, Unknown}
use Rattle.format.specs.Sections.{Pair}

-- of a section of kind 0, 1 or 2: its count field, and
pub data Fact : Type 0 where
  -- that its compression is not 1
  plain_contents : ℕ → Fact
  -- that its compression is 1
  packed_contents : ℕ → Fact
  -- the bytes of each name
  name_texts : ℕ → List (List ℕ) → Fact
  -- the name and value bytes of each pair
  argument_pairs : ℕ → List Pair → Fact

-- the fact of contents, by whether their compression is 1
abbrev pub contents_fact : Bool → ℕ → Fact
contents_fact true count = packed_contents count
contents_fact false count = plain_contents count

module _ (p : List ℕ) where
  -- so many names, from the entry at a place on; its size is its first field, its text's wire size its third
  unfoldable pub names_at : ℕ → ℕ → List (List ℕ)
  names_at zero at = []
  names_at (suc count) at = part p (at + 16) (u32_at p (at + 8) - 1) ∷ names_at count (at + u32_at p at)

  -- the bytes from a place up to the next NUL
  abbrev pub text_at : ℕ → List ℕ
  text_at at = part p at (until_nul (drop at p))

  -- so many pairs from a place on
  unfoldable pub pairs_at : ℕ → ℕ → List Pair
  pairs_at zero at = []
  pairs_at (suc count) at =
      let name : List ℕ = text_at at in
      let value : List ℕ = text_at (at + length name + 1) in
      record { name = name; value = value } ∷ pairs_at count (at + length name + 1 + length value + 1)

  -- the fact of a section of a kind at a place, if the kind has one
  unfoldable pub fact_at : SourceInfoSectionType → ℕ → List Fact
  fact_at SourceContents at = contents_fact (eqb (u16_at p (at + 14)) 1) (u32_at p (at + 24)) ∷ []
  fact_at SourceNames at = name_texts (u32_at p (at + 12)) (names_at (u32_at p (at + 12)) (at + 18)) ∷ []
  fact_at Arguments at = argument_pairs (u32_at p (at + 16)) (pairs_at (u32_at p (at + 16)) (at + 20)) ∷ []
  fact_at (Unknown kind) at = []

  -- the facts of so many sections from a place on
  unfoldable pub facts_from : ℕ → ℕ → List Fact
  facts_from zero at = []
  facts_from (suc count) at = fact_at (section_type (u16_at p (at + 6))) at ++ facts_from count (at + u32_at p at)

  unfoldable pub public_facts : List Fact
  public_facts = facts_from (u16_at p 6) 8
