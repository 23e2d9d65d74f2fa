-- How long each record of the layout is, that entries, sections and payloads are multiples of 4, and what the limits ask.
use Prim.Native.Nat.{ℕ, ◌+◌, ◌%◌, ◌≤◌}
use native.Mathlib.Nat.{add_assoc}
use native.Mathlib.Omega.{arith}
use mathlib.Core.Bool.{true, ◌&&◌, and-eq-true_iff}
use mathlib.Core.Path.{◌≡◌, refl}
use mathlib.Core.List.{List, flat_map}
use borrow.Author.Tests.{leb-true, le-leb}
use lib.Dec.{leb}
use lib.ListN.{length, length-append, length-replicate}
use Rattle.wire.specs.Padding.{aligned}
use Rattle.wire.specs.Length.{wire_size}
use Rattle.wire.proofs.NumberLaws.{length-bytes_of}
use Rattle.wire.proofs.PaddingLaws.{aligned-multiple}
use Rattle.format.specs.Sections.{Name, Pair, Section, plain, packed, names, arguments, unknown}
use Rattle.format.specs.Encoding.{content_entry, name_entry, pair_entry, stored_bytes, body_header, encode_section, encode, limit, all_countable, within_limits}
use Rattle.layout.proofs.Lists.{flat_map-multiple}

-- brings the length of a record to one sum, its numerals added up
ruleset lengths = (length-append, length-bytes_of, length-replicate, ← add_assoc)

pub length-content_entry : (text : List ℕ) → length (content_entry text) ≡ aligned (12 + wire_size (length text))
unfolding content_entry aligned
length-content_entry text = simp lengths

pub length-name_entry : (n : Name) → length (name_entry n) ≡ aligned (16 + wire_size (length n.text))
unfolding name_entry aligned
length-name_entry n = simp lengths

pub length-pair_entry : (p : Pair) → length (pair_entry p) ≡ wire_size (length p.name) + wire_size (length p.value)
unfolding pair_entry
length-pair_entry p = simp lengths

-- the size of the body header of a section
abbrev pub body_header_size : Section → ℕ
body_header_size (plain header texts) = 20
body_header_size (packed header stream count uncompressed) = 20
body_header_size (names ns) = 10
body_header_size (arguments ps) = 12
body_header_size (unknown kind bytes) = 0

pub length-body_header : (s : Section) (bytes : ℕ) → length (body_header s bytes) ≡ body_header_size s
unfolding body_header
length-body_header (plain header texts) bytes = simp lengths
length-body_header (packed header stream count uncompressed) bytes = simp lengths
length-body_header (names ns) bytes = simp lengths
length-body_header (arguments ps) bytes = simp lengths
length-body_header (unknown kind all) bytes = refl

pub length-encode_section : (s : Section) → length (encode_section s) ≡ aligned (8 + (body_header_size s + length (stored_bytes s)))
unfolding encode_section aligned
length-encode_section s = simp (lengths, length-body_header)

pub length-encode : (ss : List Section) → length (encode ss) ≡ 8 + length (flat_map encode_section ss)
unfolding encode
length-encode ss = simp lengths

pub encode_section-multiple : (s : Section) → length (encode_section s) % 4 ≡ 0
encode_section-multiple s = rw length-encode_section (aligned-multiple _)

pub encode-multiple : (ss : List Section) → length (encode ss) % 4 ≡ 0
encode-multiple ss = omega (arith, length-encode ss, flat_map-multiple encode_section encode_section-multiple ss)

pub encode-least : (ss : List Section) → 8 ≤ length (encode ss)
encode-least ss = omega (arith, length-encode ss)

-- ---- the limits

pub limits-good : (ss : List Section) → within_limits ss ≡ true → (length ss ≤ 65535) × (all_countable ss ≡ true) × (length (encode ss) ≤ limit)
unfolding within_limits
limits-good ss e =
    let (short, small) = (and-eq-true_iff (leb (length ss) 65535 && all_countable ss) (leb (length (encode ss)) limit)).0 e in
    let (few, all) = (and-eq-true_iff (leb (length ss) 65535) (all_countable ss)).0 short in
    (leb-true (length ss) 65535 few, all, leb-true (length (encode ss)) limit small)

pub limits-found : (ss : List Section) → length ss ≤ 65535 → all_countable ss ≡ true → length (encode ss) ≤ limit → within_limits ss ≡ true
unfolding within_limits
limits-found ss few all small = rw (le-leb (length ss) 65535 few, all, le-leb (length (encode ss)) limit small)
