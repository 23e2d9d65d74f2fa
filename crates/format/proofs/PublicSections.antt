-- The public sections of well-formed sections that fit are well formed and fit too; they have the same facts, and take no more bytes.
-- Assumes nothing.
use Prim.Native.Nat.{ℕ, zero, suc, ◌+◌, ◌≤◌}
use mathlib.Core.Bool.{true, ◌&&◌, and-eq-true_iff}
use mathlib.Core.List.{List, [], ◌∷◌, ◌++◌, map, flat_map, map-map}
use mathlib.Core.Path.{◌≡◌, refl, ap, ap₂, ◌∙◌}
use native.Mathlib.Omega.{arith}
use lib.Dec.{leb}
use lib.ListN.{length, replicate, length-append, length-replicate, length-map}
use Rattle.wire.specs.Length.{wire_size}
use Rattle.wire.specs.Padding.{aligned}
use Rattle.wire.proofs.PaddingLaws.{aligned-multiple, le-aligned, aligned-least}
use Rattle.format.specs.Encoding.{content_entry, name_entry, stored_bytes, encode_section, encode, countable, all_countable, within_limits}
use Rattle.format.specs.PublicFacts.{Fact, plain_contents, packed_contents, argument_pairs}
use Rattle.format.specs.Secrecy.{section_of}
use Rattle.format.specs.Sections.{Name, Section, plain, packed, names, arguments, unknown}
use Rattle.format.specs.WellFormed.{All, Text, NameOk, WellFormed}
use Rattle.format.proofs.Encoding.{length-content_entry, length-name_entry, length-encode, limits-good, limits-found}
use Rattle.format.proofs.FactsOf.{fact_of, facts_of, public_sections}
use Rattle.format.proofs.SectionBytes.{filled, length-section}
use Rattle.format.proofs.TextsOk.{empty-text}

-- names with the content size of an empty content
abbrev pub public_names : List Name → List Name
public_names ns = map (λ (text : List ℕ). record { text = text; content_size = 1 }) (map (λ (n : Name). n.text) ns)

-- ---- well formed

empty-texts : (n : ℕ) → All Text (replicate n [])
empty-texts zero = tt
empty-texts (suc n) = (empty-text, empty-texts n)

names-ok : (ns : List Name) → All NameOk ns → All NameOk (public_names ns)
names-ok [] oks = tt
names-ok (x ∷ ns) (ok, oks) = (record { text = ok.text; size = omega arith }, names-ok ns oks)

pub public-ok : (ss : List Section) → All WellFormed ss → All WellFormed (public_sections ss)
unfolding public_sections facts_of fact_of section_of flat_map
public-ok [] ok = tt
public-ok (plain header texts ∷ ss) (ok, oks) = ((omega arith, empty-texts (length texts)), public-ok ss oks)
public-ok (packed header stream count uncompressed ∷ ss) (ok, oks) = ((omega arith, λ k. omega arith, ok.2, omega arith), public-ok ss oks)
public-ok (names ns ∷ ss) (ok, oks) = (names-ok ns ok, public-ok ss oks)
public-ok (arguments xs ∷ ss) (ok, oks) = (ok, public-ok ss oks)
public-ok (unknown kind bytes ∷ ss) (ok, oks) = public-ok ss oks

-- ---- the same facts

names-fact : (ns : List Name) → fact_of (names (public_names ns)) ≡ fact_of (names ns)
unfolding fact_of
names-fact ns = simp (length-map, map-map)

pub public-same : (ss : List Section) → facts_of (public_sections ss) ≡ facts_of ss
unfolding public_sections facts_of fact_of section_of flat_map
public-same [] = refl
public-same (plain header texts ∷ ss) =
    ap₂ (λ (n : ℕ) (l : List Fact). plain_contents n ∷ l) (length-replicate (length texts) []) (public-same ss)
public-same (packed header stream count uncompressed ∷ ss) = ap (λ (l : List Fact). packed_contents count ∷ l) (public-same ss)
public-same (names ns ∷ ss) = ap₂ (λ (l m : List Fact). l ++ m) (names-fact ns) (public-same ss)
public-same (arguments xs ∷ ss) = ap (λ (l : List Fact). argument_pairs (length xs) xs ∷ l) (public-same ss)
public-same (unknown kind bytes ∷ ss) = public-same ss

pub public-again : (ss : List Section) → public_sections (public_sections ss) ≡ public_sections ss
unfolding public_sections
public-again ss = ap (map section_of) (public-same ss)

-- ---- no more bytes

aligned-keeps : (a b : ℕ) → a ≤ b → aligned a ≤ aligned b
aligned-keeps a b h = aligned-least a (aligned b) (omega (arith, le-aligned b)) (aligned-multiple b)

contents-shorter : (texts : List (List ℕ)) → length (flat_map content_entry (replicate (length texts) [])) ≤ length (flat_map content_entry texts)
unfolding flat_map
contents-shorter [] = omega arith
contents-shorter (text ∷ texts) =
    let first = aligned-keeps (12 + wire_size 0) (12 + wire_size (length text)) (omega arith) in
    simp (length-append, length-content_entry) (omega (arith, contents-shorter texts))

pub names-long : (ns : List Name) → length (flat_map name_entry (public_names ns)) ≡ length (flat_map name_entry ns)
unfolding flat_map
names-long [] = refl
names-long (x ∷ ns) = simp (length-append, length-name_entry) (omega (arith, names-long ns))

-- a section that fills no more, before sections that take no more
first-shorter :
    (s t : Section) (ss ts : List Section) →
    filled s ≤ filled t →
    length (flat_map encode_section ss) ≤ length (flat_map encode_section ts) →
    length (flat_map encode_section (s ∷ ss)) ≤ length (flat_map encode_section (t ∷ ts))
unfolding flat_map
first-shorter s t ss ts h rest = simp length-append (omega (arith, length-section s, length-section t, aligned-keeps (filled s) (filled t) h))

sections-shorter : (ss : List Section) → length (flat_map encode_section (public_sections ss)) ≤ length (flat_map encode_section ss)
unfolding public_sections facts_of fact_of section_of flat_map stored_bytes
sections-shorter [] = omega arith
sections-shorter (plain header texts ∷ ss) =
    first-shorter _ (plain header texts) (public_sections ss) ss (omega (arith, contents-shorter texts)) (sections-shorter ss)
sections-shorter (packed header stream count uncompressed ∷ ss) =
    first-shorter _ (packed header stream count uncompressed) (public_sections ss) ss (omega arith) (sections-shorter ss)
sections-shorter (names ns ∷ ss) = first-shorter _ (names ns) (public_sections ss) ss (omega (arith, names-long ns)) (sections-shorter ss)
sections-shorter (arguments xs ∷ ss) = first-shorter _ (arguments xs) (public_sections ss) ss (omega arith) (sections-shorter ss)
sections-shorter (unknown kind bytes ∷ ss) = simp length-append (omega (arith, sections-shorter ss))

pub public-shorter : (ss : List Section) → length (encode (public_sections ss)) ≤ length (encode ss)
public-shorter ss = omega (arith, length-encode ss, length-encode (public_sections ss), sections-shorter ss)

-- ---- within the limits

public-fewer : (ss : List Section) → length (public_sections ss) ≤ length ss
unfolding public_sections facts_of fact_of flat_map
public-fewer [] = omega arith
public-fewer (plain header texts ∷ ss) = omega (arith, public-fewer ss)
public-fewer (packed header stream count uncompressed ∷ ss) = omega (arith, public-fewer ss)
public-fewer (names ns ∷ ss) = omega (arith, public-fewer ss)
public-fewer (arguments xs ∷ ss) = omega (arith, public-fewer ss)
public-fewer (unknown kind bytes ∷ ss) = omega (arith, public-fewer ss)

public-fit : (ss : List Section) → all_countable ss ≡ true → all_countable (public_sections ss) ≡ true
unfolding public_sections facts_of fact_of section_of flat_map all_countable countable
public-fit [] fit = refl
public-fit (plain header texts ∷ ss) fit = public-fit ss fit
public-fit (packed header stream count uncompressed ∷ ss) fit = public-fit ss fit
public-fit (names ns ∷ ss) fit =
    let (this, others) = simp and-eq-true_iff at fit in
    ap₂ ◌&&◌ (ap (λ (k : ℕ). leb k 65535) (names-long ns) ∙ this) (public-fit ss others)
public-fit (arguments xs ∷ ss) fit = public-fit ss fit
public-fit (unknown kind bytes ∷ ss) fit = public-fit ss fit

pub public-fits : (ss : List Section) → within_limits ss ≡ true → within_limits (public_sections ss) ≡ true
public-fits ss fit =
    let (few, all_fit, small) = limits-good ss fit in
    limits-found (public_sections ss) (omega (arith, public-fewer ss)) (public-fit ss all_fit) (omega (arith, public-shorter ss))
