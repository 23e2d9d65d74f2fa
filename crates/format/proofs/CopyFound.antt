-- The walk of specs/CopyWalk.antt finds the public sections: where sections stand, what it takes of each is the section that a public copy has.
-- Assumes nothing.
use Rattle.std.specs.Prelude.{Ok}
use Prim.Native.Nat.{ℕ, ◌+◌, ◌-◌, ◌≤◌}
use mathlib.Core.List.{List, [], ◌∷◌, ◌++◌, map, flat_map, append_assoc}
use mathlib.Core.Path.{◌≡◌, refl, sym, ap, ap₂, ◌∙◌}
use native.Mathlib.Omega.{arith}
use lib.ListN.{length, replicate, length-append, length-replicate, length-map}
use Rattle.wire.specs.Length.{wire_size}
use Rattle.wire.specs.Number.{u32_at}
use Rattle.wire.specs.Padding.{padding, aligned}
use Rattle.wire.proofs.NumberLaws.{length-bytes_of}
use Rattle.layout.specs.Checked.{Checked}
use Rattle.layout.specs.Spans.{part}
use Rattle.layout.proofs.Lists.{map-flat_map, flat_map-map}
use Rattle.table.specs.declared.row.Row.{Row}
use Rattle.format.specs.CopyWalk.{name_copy, name_copies, contents_copy, names_copy, section_copy, copy_at, copy_of, copy}
use Rattle.format.specs.Encoding.{u16, u32, terminate, limit, name_entry, stored_bytes, body_header, kind_of, encode_section, encode}
use Rattle.format.specs.Parse.{parse}
use Rattle.format.specs.PublicCopy.{public_copy}
use Rattle.format.specs.PublicFacts.{Fact, public_facts}
use Rattle.format.specs.Read.{accepted}
use Rattle.format.specs.Secrecy.{section_of, made}
use Rattle.format.specs.Sections.{Name, Section, plain, packed, names, arguments, unknown}
use Rattle.format.specs.Walk.{places}
use Rattle.format.specs.WellFormed.{Bytes}
use Rattle.format.proofs.Encoding.{length-name_entry}
use Rattle.format.proofs.FactsFound.{public-facts}
use Rattle.format.proofs.FactsOf.{fact_of, facts_of}
use Rattle.format.proofs.PayloadStands.{payload-stands}
use Rattle.format.proofs.PublicSections.{public_names, names-long}
use Rattle.format.proofs.Secrecy.{copy-of-facts}
use Rattle.format.proofs.SectionBytes.{length-section}
use Rattle.format.proofs.SectionsFound.{Here, paired-flat_map, payload-here}
use Rattle.format.proofs.Stands.{Stands, stands-first, stands-next, stands-part, spells}

-- ---- names

-- a name with the content size of an empty content
abbrev named : List ℕ → Name
named text = record { text = text; content_size = 1 }

-- an entry before its content size, and after it
abbrev before : ℕ → List ℕ
before size = u32 (aligned (16 + size)) ++ (u32 0 ++ u32 size)

abbrev after : List ℕ → List ℕ
after text = terminate text ++ replicate (padding (16 + wire_size (length text))) 0

entry-split : (n : Name) → name_entry n ≡ before (wire_size (length n.text)) ++ (u32 n.content_size ++ after n.text)
unfolding name_entry
entry-split n =
    let size : ℕ = wire_size (length n.text) in
    let unpadded : List ℕ = u32 (aligned (16 + size)) ++ (u32 0 ++ (u32 size ++ (u32 n.content_size ++ terminate n.text))) in
    let long : length unpadded ≡ 16 + size = simp (length-append, length-bytes_of) (omega arith) in
    rw long (simp append_assoc)

length_before : (size : ℕ) → length (before size) ≡ 12
length_before size = simp (length-append, length-bytes_of)

length-after : (text : List ℕ) → length (after text) ≡ aligned (16 + wire_size (length text)) - 16
unfolding aligned
length-after text = simp (length-append, length-replicate) (omega arith)

module _ (p : List ℕ) where
  name-copied :
      length p ≤ limit →
      (at : ℕ) (n : Name) →
      at + length (name_entry n) ≤ length p →
      Stands p at (name_entry n) →
      (u32_at p at ≡ length (name_entry n)) × (name_copy p at ≡ name_entry (named n.text))
  name-copied small at n within s =
      let size : ℕ = wire_size (length n.text) in
      let whole : ℕ = aligned (16 + size) in
      let long = length-name_entry n in
      let s₁ = rw (entry-split n) at s in
      let head = stands-first p at (before size) _ s₁ in
      let field : u32_at p at ≡ whole = spells p 4 at whole (omega arith) (stands-first p at (u32 whole) _ head) in
      let s₂ = stands-next p at (before size) _ (at + 12) (omega (arith, length_before size)) s₁ in
      let s₃ = stands-next p (at + 12) (u32 n.content_size) (after n.text) (at + 16) (omega (arith, length-bytes_of 4 n.content_size)) s₂ in
      let first : part p at 12 ≡ before size = ap (part p at) (sym (length_before size)) ∙ stands-part p at (before size) head in
      let last : part p (at + 16) (whole - 16) ≡ after n.text = ap (part p (at + 16)) (sym (length-after n.text)) ∙ stands-part p (at + 16) (after n.text) s₃ in
      (field ∙ sym long, rw (field, first, last) (sym (entry-split (named n.text))))

  names-copied :
      length p ≤ limit →
      (ns : List Name) (at : ℕ) →
      at + length (flat_map name_entry ns) ≤ length p →
      Stands p at (flat_map name_entry ns) →
      name_copies p (length ns) at ≡ flat_map name_entry (public_names ns)
  unfolding name_copies flat_map
  names-copied small [] at within s = refl
  names-copied small (n ∷ ns) at within s =
      let sizes = length-append (name_entry n) (flat_map name_entry ns) in
      let (size, here) = name-copied small at n (omega arith) (stands-first p at (name_entry n) (flat_map name_entry ns) s) in
      let next : ℕ = at + length (name_entry n) in
      let others = names-copied small ns next (omega arith) (stands-next p at (name_entry n) (flat_map name_entry ns) next refl s) in
      rw (here, size, others)

-- a names section: its headers, its entries, its padding
abbrev heads : ℕ → ℕ → List ℕ
heads count bytes = u32 (aligned (18 + bytes)) ++ (u16 0 ++ (u16 1 ++ (u32 0 ++ (u32 count ++ u16 bytes))))

length-heads : (count bytes : ℕ) → length (heads count bytes) ≡ 18
length-heads count bytes = simp (length-append, length-bytes_of)

names-split : (ns : List Name) →
    (let bytes : List ℕ = flat_map name_entry ns in
    encode_section (names ns) ≡ heads (length ns) (length bytes) ++ (bytes ++ replicate (padding (18 + length bytes)) 0))
unfolding encode_section stored_bytes body_header kind_of
names-split ns =
    let bytes : List ℕ = flat_map name_entry ns in
    let body : List ℕ = (u32 0 ++ (u32 (length ns) ++ u16 (length bytes))) ++ bytes in
    let size : 8 + length body ≡ 18 + length bytes = simp (length-append, length-bytes_of) (omega arith) in
    let unpadded : List ℕ = u32 (aligned (8 + length body)) ++ (u16 0 ++ (u16 1 ++ body)) in
    let long : length unpadded ≡ 18 + length bytes = simp (length-append, length-bytes_of) (omega arith) in
    rw (long, size) (simp append_assoc)

-- ---- a section

module _ (p : List ℕ) (at : ℕ) where
  names-section : (ns : List Name) → Here p at (names ns) → names_copy p at ≡ encode_section (names (public_names ns))
  unfolding names_copy
  names-section ns h =
      let (flags, count, stored) = h.fields in
      let bytes : List ℕ = flat_map name_entry ns in
      let ms : List Name = public_names ns in
      let zeros : List ℕ = replicate (padding (18 + length bytes)) 0 in
      let head : List ℕ = heads (length ns) (length bytes) in
      let split = names-split ns in
      let within = h.within in
      let size : u32_at p at ≡ length (encode_section (names ns)) = h.parts.size ∙ sym (length-section (names ns)) in
      let lengths : length (encode_section (names ns)) ≡ 18 + (length bytes + length zeros) =
      ap length split ∙ length-append head (bytes ++ zeros) ∙ ap₂ (λ (a b : ℕ). a + b) (length-heads (length ns) (length bytes)) (length-append bytes zeros) in
      let s₁ = rw split at h.stand in
      let s₂ = stands-next p at head (bytes ++ zeros) (at + 18) (omega (arith, length-heads (length ns) (length bytes))) s₁ in
      let s₃ = stands-next p (at + 18) bytes zeros (at + 18 + length bytes) refl s₂ in
      let first : part p at 18 ≡ head = ap (part p at) (sym (length-heads (length ns) (length bytes))) ∙ stands-part p at head (stands-first p at head (bytes ++ zeros) s₁) in
      let entries = names-copied p h.small ns (at + 18) (omega arith) (stands-first p (at + 18) bytes zeros s₂) in
      let left : u32_at p at - (18 + length bytes) ≡ length zeros = omega arith in
      let last : part p (at + 18 + length bytes) (length zeros) ≡ zeros = stands-part p (at + 18 + length bytes) zeros s₃ in
      let same : heads (length ms) (length (flat_map name_entry ms)) ≡ head = rw (names-long ns) (ap (λ (k : ℕ). heads k (length bytes)) (length-map (map (λ (n : Name). n.text) ns) named ∙ length-map ns (λ (n : Name). n.text))) in
      rw (count, stored, left, first, entries, last)
      (sym (names-split ms ∙ ap₂ (λ (h z : List ℕ). h ++ (flat_map name_entry ms ++ z)) same (ap (λ (k : ℕ). replicate (padding (18 + k)) 0) (names-long ns))))

-- the bytes that a public copy has for a fact
abbrev copied : Fact → List ℕ
copied f = encode_section (section_of f)

-- what the walk takes of a section is what a public copy has for it
copy-at : (p : List ℕ) (at : ℕ) (s : Section) → Here p at s → copy_at p at ≡ map copied (fact_of s)
unfolding section_copy contents_copy kind_of fact_of section_of
copy-at p at s h = rw h.kind (go s h)
  where
    go : (s : Section) → Here p at s → section_copy p (kind_of s) at ≡ map copied (fact_of s)
    go (plain header texts) h = let (field, flags, compression, bytes, equal, count) = h.fields in rw (compression, count)
    go (packed header stream many uncompressed) h = let (field, flags, compression, bytes, unpacked, count) = h.fields in rw (compression, count)
    go (names ns) h = ap (λ (l : List ℕ). l ∷ []) (names-section p at ns h)
    go (arguments xs) h = rw (h.parts.size, ← length-section (arguments xs)) (ap (λ (l : List ℕ). l ∷ []) (stands-part p at (encode_section (arguments xs)) h.stand))
    go (unknown kind bytes) h = refl

-- ---- a payload

-- the sections of facts, after a main header
copies-encoded : (facts : List Fact) → copy_of (map copied facts) ≡ made facts
unfolding copy_of made encode
copies-encoded facts =
    let bytes : flat_map (λ (s : List ℕ). s) (map copied facts) ≡ flat_map encode_section (map section_of facts) =
    flat_map-map (λ (s : List ℕ). s) copied facts ∙ sym (flat_map-map encode_section section_of facts) in
    rw (bytes, length-map facts copied, length-map facts section_of)

-- of an accepted payload the walk is the public copy
pub copy-found : (p : List ℕ) (rows : List Row) → Bytes p → parse p ≡ Ok rows → public_copy p ≡ Ok (copy p)
unfolding copy accepted facts_of
copy-found p rows bytes e =
    let all = payload-stands p bytes rows e in
    let ss : List Section = all.sections in
    let taken : flat_map (copy_at p) (places p) ≡ map copied (facts_of ss) =
    paired-flat_map (Here p) (copy_at p) (λ (s : Section). map copied (fact_of s)) (copy-at p) (places p) ss (payload-here p rows all) ∙ map-flat_map fact_of copied ss in
    let facts : public_facts p ≡ facts_of ss = ap public_facts (sym all.is) ∙ public-facts ss all.ok all.fit in
    copy-of-facts p (bytes, rw e refl) ∙
    ap {B = Checked (List ℕ)} (λ (l : List Fact). Ok (made l)) facts ∙
    ap {B = Checked (List ℕ)} (λ (l : List ℕ). Ok l) (sym (ap copy_of taken ∙ copies-encoded (facts_of ss)))
