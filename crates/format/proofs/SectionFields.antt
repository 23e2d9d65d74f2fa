-- The numbers of a section's headers, read where the section stands.
-- Assumes nothing.
use Prim.Native.Nat.{ℕ, ◌+◌, ◌≤◌, ◌<◌}
use mathlib.Core.Bool.{true}
use mathlib.Core.List.{List, flat_map}
use mathlib.Core.Path.{◌≡◌, refl, ap, ◌∙◌}
use native.Mathlib.Omega.{arith}
use borrow.Author.Tests.{leb-true}
use lib.ListN.{length}
use Rattle.wire.specs.Length.{wire_size}
use Rattle.wire.specs.Number.{u16_at, u32_at}
use Rattle.wire.specs.Padding.{aligned}
use Rattle.wire.proofs.PaddingLaws.{le-aligned}
use Rattle.layout.specs.Kinds.{section_type, kind_number}
use Rattle.layout.proofs.Unknown.{section_type-unknown}
use Rattle.layout.proofs.Lists.{flat_map-least}
use Rattle.format.specs.Encoding.{limit, content_entry, name_entry, pair_entry, stored_bytes, body_header, kind_of, countable}
use Rattle.format.specs.Parse.{kind_at}
use Rattle.format.specs.Sections.{Name, Pair, Section, plain, packed, names, arguments, unknown}
use Rattle.format.specs.WellFormed.{WellFormed}
use Rattle.format.proofs.Encoding.{length-content_entry, length-name_entry, length-pair_entry}
use Rattle.format.proofs.SectionBytes.{filled, SectionAt}
use Rattle.format.proofs.Stands.{Stands, spells, stands-number}

-- there are no more items than bytes of them
contents-many : (texts : List (List ℕ)) → length texts ≤ length (flat_map content_entry texts)
contents-many = flat_map-least content_entry (λ text. omega (arith, length-content_entry text, le-aligned (12 + wire_size (length text))))

names-many : (ns : List Name) → length ns ≤ length (flat_map name_entry ns)
names-many = flat_map-least name_entry (λ n. omega (arith, length-name_entry n, le-aligned (16 + wire_size (length n.text))))

pairs-many : (xs : List Pair) → length xs ≤ length (flat_map pair_entry xs)
pairs-many = flat_map-least pair_entry (λ x. omega (arith, length-pair_entry x))

pub known-kind : (s : Section) → WellFormed s → kind_number (kind_of s) < 65536
unfolding kind_of
known-kind (plain header texts) ok = omega arith
known-kind (packed header stream count uncompressed) ok = omega arith
known-kind (names ns) ok = omega arith
known-kind (arguments xs) ok = omega arith
known-kind (unknown kind bytes) ok = omega (arith, ok.1)

-- the kind that is read where a section stands
pub kind-found : (p : List ℕ) (at : ℕ) (s : Section) → WellFormed s → SectionAt p at s → kind_at p at ≡ kind_of s
unfolding kind_of
kind-found p at s ok g = ap section_type g.kind ∙ back s ok
  where
    back : (s : Section) → WellFormed s → section_type (kind_number (kind_of s)) ≡ kind_of s
    back (plain header texts) ok = refl
    back (packed header stream count uncompressed) ok = refl
    back (names ns) ok = refl
    back (arguments xs) ok = refl
    back (unknown kind bytes) ok = section_type-unknown kind ok.0

-- the numbers of a section's body header
abbrev pub Fields : List ℕ → ℕ → Section → Type 0
Fields p at (plain header texts) =
    (u32_at p (at + 8) ≡ header)
    × (u16_at p (at + 12) ≡ 0)
    × (u16_at p (at + 14) ≡ 0)
    × (u32_at p (at + 16) ≡ length (flat_map content_entry texts))
    × (u32_at p (at + 20) ≡ length (flat_map content_entry texts))
    × (u32_at p (at + 24) ≡ length texts)
Fields p at (packed header stream count uncompressed) =
    (u32_at p (at + 8) ≡ header)
    × (u16_at p (at + 12) ≡ 0)
    × (u16_at p (at + 14) ≡ 1)
    × (u32_at p (at + 16) ≡ length stream)
    × (u32_at p (at + 20) ≡ uncompressed)
    × (u32_at p (at + 24) ≡ count)
Fields p at (names ns) = (u32_at p (at + 8) ≡ 0) × (u32_at p (at + 12) ≡ length ns) × (u16_at p (at + 16) ≡ length (flat_map name_entry ns))
Fields p at (arguments xs) = (u32_at p (at + 8) ≡ 0) × (u32_at p (at + 12) ≡ length (flat_map pair_entry xs)) × (u32_at p (at + 16) ≡ length xs)
Fields p at (unknown kind bytes) = Unit {0}

pub section-fields :
    (p : List ℕ) →
    length p ≤ limit →
    (at : ℕ) (s : Section) →
    WellFormed s →
    countable s ≡ true →
    at + aligned (filled s) ≤ length p →
    Stands p (at + 8) (body_header s (length (stored_bytes s))) →
    Fields p at s
unfolding stored_bytes body_header countable
section-fields p small at (names ns) ok fit within header =
    let stored : ℕ = length (flat_map name_entry ns) in
    let short : stored ≤ 65535 = leb-true stored 65535 fit in
    let (flags, h₁) = stands-number p 4 (at + 8) (at + 12) 0 _ (omega arith) (omega arith) header in
    let (count, h₂) = stands-number p 4 (at + 12) (at + 16) (length ns) _ (omega arith) (omega (arith, names-many ns)) h₁ in
    (flags, count, spells p 2 (at + 16) stored (omega arith) h₂)
section-fields p small at (arguments xs) ok fit within header =
    let stored : ℕ = length (flat_map pair_entry xs) in
    let least : 20 + stored ≤ aligned (20 + stored) = le-aligned (20 + stored) in
    let (flags, h₁) = stands-number p 4 (at + 8) (at + 12) 0 _ (omega arith) (omega arith) header in
    let (bytes, h₂) = stands-number p 4 (at + 12) (at + 16) stored _ (omega arith) (omega arith) h₁ in
    (flags, bytes, spells p 4 (at + 16) (length xs) (omega (arith, pairs-many xs)) h₂)
section-fields p small at (plain field texts) ok fit within header =
    let stored : ℕ = length (flat_map content_entry texts) in
    let least : 28 + stored ≤ aligned (28 + stored) = le-aligned (28 + stored) in
    let (is, h₁) = stands-number p 4 (at + 8) (at + 12) field _ (omega arith) ok.0 header in
    let (flags, h₂) = stands-number p 2 (at + 12) (at + 14) 0 _ (omega arith) (omega arith) h₁ in
    let (compression, h₃) = stands-number p 2 (at + 14) (at + 16) 0 _ (omega arith) (omega arith) h₂ in
    let (bytes, h₄) = stands-number p 4 (at + 16) (at + 20) stored _ (omega arith) (omega arith) h₃ in
    let (equal, h₅) = stands-number p 4 (at + 20) (at + 24) stored _ (omega arith) (omega arith) h₄ in
    (is, flags, compression, bytes, equal, spells p 4 (at + 24) (length texts) (omega (arith, contents-many texts)) h₅)
section-fields p small at (packed field stream count uncompressed) ok fit within header =
    let stored : ℕ = length stream in
    let least : 28 + stored ≤ aligned (28 + stored) = le-aligned (28 + stored) in
    let (is, h₁) = stands-number p 4 (at + 8) (at + 12) field _ (omega arith) ok.0 header in
    let (flags, h₂) = stands-number p 2 (at + 12) (at + 14) 0 _ (omega arith) (omega arith) h₁ in
    let (compression, h₃) = stands-number p 2 (at + 14) (at + 16) 1 _ (omega arith) (omega arith) h₂ in
    let (bytes, h₄) = stands-number p 4 (at + 16) (at + 20) stored _ (omega arith) (omega arith) h₃ in
    let (size, h₅) = stands-number p 4 (at + 20) (at + 24) uncompressed _ (omega arith) ok.3 h₄ in
    (is, flags, compression, bytes, size, spells p 4 (at + 24) count ok.2 h₅)
section-fields p small at (unknown kind bytes) ok fit within header = tt
