-- The public facts of an encoding, taken from its bytes, are those of its sections.
-- Assumes nothing.
use Prim.Native.Nat.{ℕ, zero, suc, ◌+◌, ◌-◌, ◌≤◌}
use mathlib.Core.Bool.{true}
use mathlib.Core.List.{List, [], ◌∷◌, ◌++◌, map, flat_map}
use mathlib.Core.Path.{◌≡◌, refl, ap, ap₂, ◌∙◌}
use native.Mathlib.Omega.{arith}
use lib.ListN.{length, length-append}
use Rattle.wire.specs.Number.{u16_at, u32_at}
use Rattle.wire.proofs.PaddingLaws.{le-aligned}
use Rattle.layout.specs.Spans.{part}
use Rattle.format.specs.Encoding.{u32, limit, terminate, name_entry, pair_entry, stored_bytes, kind_of, encode, within_limits}
use Rattle.format.specs.Parse.{kind_at}
use Rattle.format.specs.PublicFacts.{Fact, names_at, text_at, pairs_at, fact_at, facts_from, public_facts}
use Rattle.format.specs.Sections.{Name, Pair, Section, plain, packed, names, arguments, unknown}
use Rattle.format.specs.Walk.{places_from, places}
use Rattle.format.specs.WellFormed.{All, Text, NameOk, PairOk, WellFormed}
use Rattle.format.proofs.EntryBytes.{name-is, name-header, stands-fields}
use Rattle.format.proofs.Encoding.{length-name_entry, length-pair_entry}
use Rattle.format.proofs.FactsOf.{fact_of, facts_of}
use Rattle.format.proofs.PairBytes.{nul-found}
use Rattle.format.proofs.SectionBytes.{filled, length-section}
use Rattle.format.proofs.SectionsFound.{Here, paired-flat_map, encoded-here}
use Rattle.format.proofs.Stands.{Stands, stands-first, stands-next, stands-part, spells}

module _ (p : List ℕ) (small : length p ≤ limit) where
  -- ---- the names and the pairs of a section

  -- what is found at the place of a name: its text, its entry's size, and its content's
  pub name-found :
      (at : ℕ) (x : Name) →
      NameOk x →
      at + length (name_entry x) ≤ length p →
      Stands p at (name_entry x) →
      (part p (at + 16) (u32_at p (at + 8) - 1) ≡ x.text) × (u32_at p at ≡ length (name_entry x)) × (u32_at p (at + 12) ≡ x.content_size)
  name-found at x ok room s =
      let size : ℕ = x.content_size in
      let spans = length-name_entry x in
      let (g, middle, this) = stands-fields 16 (u32 size) (name-header size) p at (length p) (omega arith) x.text small ok.text (omega arith) (rw name-is at s) in
      let long : u32_at p (at + 8) - 1 ≡ length x.text = omega (arith, g.text) in
      (ap (λ (k : ℕ). part p (at + 16) k) long ∙ stands-part p (at + 16) x.text this, omega (arith, g.size), spells p 4 (at + 12) size ok.size middle)

  names-found :
      (ns : List Name) (at : ℕ) →
      All NameOk ns →
      at + length (flat_map name_entry ns) ≤ length p →
      Stands p at (flat_map name_entry ns) →
      names_at p (length ns) at ≡ map (λ (n : Name). n.text) ns
  unfolding names_at flat_map
  names-found [] at oks room s = refl
  names-found (x ∷ ns) at (ok, oks) room s =
      let sizes = length-append (name_entry x) (flat_map name_entry ns) in
      let (text, size, content) = name-found at x ok (omega arith) (stands-first p at (name_entry x) (flat_map name_entry ns) s) in
      let next : ℕ = at + u32_at p at in
      let rest = names-found ns next oks (omega arith) (stands-next p at (name_entry x) (flat_map name_entry ns) next (omega arith) s) in
      ap₂ (λ (t : List ℕ) (l : List (List ℕ)). t ∷ l) text rest

  text-found : (at : ℕ) (text : List ℕ) → Text text → Stands p at (terminate text) → text_at p at ≡ text
  text-found at text ok s =
      ap (λ (k : ℕ). part p at k) (nul-found p at text ok s) ∙ stands-part p at text (stands-first p at text (0 ∷ []) s)

  pub pairs-found :
      (xs : List Pair) (at : ℕ) →
      All PairOk xs →
      Stands p at (flat_map pair_entry xs) →
      pairs_at p (length xs) at ≡ xs
  unfolding pairs_at flat_map pair_entry
  pairs-found [] at oks s = refl
  pairs-found (x ∷ xs) at (ok, oks) s =
      let name : List ℕ = terminate x.name in
      let value : List ℕ = terminate x.value in
      let this = stands-first p at (name ++ value) (flat_map pair_entry xs) s in
      let middle : ℕ = at + length x.name + 1 in
      let next : ℕ = middle + length x.value + 1 in
      let there : middle ≡ at + length name = omega (arith, length-append x.name (0 ∷ [])) in
      let after : next ≡ at + length (pair_entry x) = omega (arith, length-pair_entry x) in
      let first = text-found at x.name ok.name (stands-first p at name value this) in
      let second = text-found middle x.value ok.value (stands-next p at name value middle there this) in
      let rest = pairs-found xs next oks (stands-next p at (name ++ value) (flat_map pair_entry xs) next after s) in
      rw (first, second, rest)

-- ---- the facts of sections

fact-found : (p : List ℕ) (at : ℕ) (s : Section) → Here p at s → fact_at p (kind_at p at) at ≡ fact_of s
unfolding fact_at fact_of kind_of stored_bytes
fact-found p at s h = rw h.kind (go s h)
  where
    go : (s : Section) → Here p at s → fact_at p (kind_of s) at ≡ fact_of s
    go (plain header texts) h = let (field, flags, compression, bytes, equal, count) = h.fields in rw (compression, count)
    go (packed header stream many uncompressed) h = let (field, flags, compression, bytes, size, count) = h.fields in rw (compression, count)
    go (names ns) h =
        let (flags, count, bytes) = h.fields in
        let room : at + 18 + length (flat_map name_entry ns) ≤ length p = omega (arith, h.within, length-section (names ns), le-aligned (filled (names ns))) in
        rw (count, names-found p h.small ns (at + 18) h.ok room h.parts.stored)
    go (arguments xs) h = let (flags, bytes, count) = h.fields in rw (count, pairs-found p h.small xs (at + 20) h.ok h.parts.stored)
    go (unknown kind bytes) h = refl

-- the walk that takes the facts is the one over the places of sections
facts-walk : (p : List ℕ) (count at : ℕ) → facts_from p count at ≡ flat_map (λ (at : ℕ). fact_at p (kind_at p at) at) (places_from p count at)
unfolding facts_from places_from flat_map
facts-walk p zero at = refl
facts-walk p (suc count) at = ap (λ (l : List Fact). fact_at p (kind_at p at) at ++ l) (facts-walk p count (at + u32_at p at))

pub public-facts : (ss : List Section) → All WellFormed ss → within_limits ss ≡ true → public_facts (encode ss) ≡ facts_of ss
unfolding public_facts places facts_of
public-facts ss ok fit =
    let p : List ℕ = encode ss in
    facts-walk p (u16_at p 6) 8 ∙ paired-flat_map (Here p) _ fact_of (fact-found p) (places p) ss (encoded-here ss ok fit)
