-- The public facts of sections, and the sections that a public copy has for them.
-- Assumes nothing.
use mathlib.Core.List.{List, [], ◌∷◌, map, flat_map}
use lib.ListN.{length}
use Rattle.format.specs.PublicFacts.{Fact, plain_contents, packed_contents, name_texts, argument_pairs}
use Rattle.format.specs.Secrecy.{section_of}
use Rattle.format.specs.Sections.{Name, Section, plain, packed, names, arguments, unknown}

-- the fact of a section, if its kind has one
unfoldable pub fact_of : Section → List Fact
fact_of (plain header texts) = plain_contents (length texts) ∷ []
fact_of (packed header stream count uncompressed) = packed_contents count ∷ []
fact_of (names ns) = name_texts (length ns) (map (λ (n : Name). n.text) ns) ∷ []
fact_of (arguments xs) = argument_pairs (length xs) xs ∷ []
fact_of (unknown kind bytes) = []

unfoldable pub facts_of : List Section → List Fact
facts_of ss = flat_map fact_of ss

-- the sections that the public copy of sections has
unfoldable pub public_sections : List Section → List Section
public_sections ss = map section_of (facts_of ss)
