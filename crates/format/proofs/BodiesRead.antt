-- Reading finds every well-formed section where its bytes stand, of each kind.
-- Assumes nothing.
use Rattle.std.specs.Prelude.{Ok}
use Prim.Native.Nat.{ℕ, ◌+◌, ◌-◌, ◌≤◌}
use mathlib.Core.Bool.{true}
use mathlib.Core.List.{List, flat_map}
use mathlib.Core.Path.{◌≡◌, refl, sym, ◌∙◌}
use native.Mathlib.Omega.{arith}
use lib.ListN.{length}
use Rattle.wire.specs.Padding.{aligned}
use Rattle.wire.proofs.PaddingLaws.{le-aligned, aligned-multiple, aligned-of-multiple}
use Rattle.format.specs.Encoding.{limit, content_entry, name_entry, pair_entry, stored_bytes, body_header, kind_of, encode_section, countable}
use Rattle.format.specs.Parse.{parse_stored, parse_section, kind_at}
use Rattle.format.specs.Sections.{Section, plain, packed, names, arguments, unknown}
use Rattle.format.specs.WellFormed.{WellFormed}
use Rattle.format.proofs.FrameLaws.{Frame}
use Rattle.format.proofs.Items.{items-contents, items-names, items-pairs}
use Rattle.format.proofs.PlacedRows.{rows_of_section}
use Rattle.format.proofs.SectionBytes.{filled, SectionAt, stands-section}
use Rattle.format.proofs.SectionFields.{section-fields, known-kind, kind-found}
use Rattle.format.proofs.SectionLaws.{contents-found, plain-found, names-found, arguments-found}
use Rattle.format.proofs.Stands.{Stands}

module _ (p : List ℕ) (small : length p ≤ limit) (at : ℕ) where
  -- ---- a section of a kind

  read-kind :
      (s : Section) →
      WellFormed s →
      countable s ≡ true →
      at + aligned (filled s) ≤ length p →
      SectionAt p at s →
      parse_section (kind_of s) p at (aligned (filled s)) ≡ Ok (rows_of_section at s)
  unfolding parse_section parse_stored stored_bytes body_header kind_of countable rows_of_section
  read-kind (names ns) ok fit within g =
      let stored : ℕ = length (flat_map name_entry ns) in
      let least : 18 + stored ≤ aligned (18 + stored) = le-aligned (18 + stored) in
      let (flags, count, bytes) = section-fields p small at (names ns) ok fit within g.header in
      names-found p at (aligned (18 + stored)) (rw bytes (record { sized = refl; zeros = g.zeros; within = least })) flags
      (rw (count, bytes) (items-names p (at + 18 + stored) (omega arith) small (at + 18) ns ok refl g.stored))
  read-kind (arguments xs) ok fit within g =
      let stored : ℕ = length (flat_map pair_entry xs) in
      let least : 20 + stored ≤ aligned (20 + stored) = le-aligned (20 + stored) in
      let (flags, bytes, count) = section-fields p small at (arguments xs) ok fit within g.header in
      arguments-found p at (aligned (20 + stored)) (rw bytes (record { sized = refl; zeros = g.zeros; within = least })) flags
      (rw (count, bytes) (items-pairs p (at + 20 + stored) (omega arith) small (at + 20) xs ok refl g.stored))
  read-kind (plain header texts) ok fit within g =
      let stored : ℕ = length (flat_map content_entry texts) in
      let least : 28 + stored ≤ aligned (28 + stored) = le-aligned (28 + stored) in
      let (field, flags, compression, bytes, equal, count) = section-fields p small at (plain header texts) ok fit within g.header in
      contents-found p at (aligned (28 + stored)) _ (rw bytes (record { sized = refl; zeros = g.zeros; within = least })) flags (omega (arith, compression))
      (rw (compression, ← field)
      (plain-found p at (equal ∙ sym bytes) (rw (count, bytes) (items-contents p (at + 28 + stored) (omega arith) small (at + 28) texts ok.1 refl g.stored))))
  read-kind (packed header stream many uncompressed) ok fit within g =
      let stored : ℕ = length stream in
      let least : 28 + stored ≤ aligned (28 + stored) = le-aligned (28 + stored) in
      let (field, flags, compression, bytes, size, count) = section-fields p small at (packed header stream many uncompressed) ok fit within g.header in
      contents-found p at (aligned (28 + stored)) _ (rw bytes (record { sized = refl; zeros = g.zeros; within = least })) flags (omega (arith, compression))
      (rw (compression, field, bytes, size, count))
  read-kind (unknown kind bytes) ok fit within g =
      let size : ℕ = aligned (8 + length bytes) in
      let whole : size - 8 ≡ length bytes = omega (arith, aligned-of-multiple (8 + length bytes) (omega (arith, ok.3))) in
      rw whole

  -- ---- a section

  pub read-section :
      (s : Section) →
      WellFormed s →
      countable s ≡ true →
      at + aligned (filled s) ≤ length p →
      Stands p at (encode_section s) →
      Frame p at (aligned (filled s)) × (parse_section (kind_at p at) p at (aligned (filled s)) ≡ Ok (rows_of_section at s))
  read-section s ok fit within stand =
      let g = stands-section p at s within small (known-kind s ok) stand in (
        record {
          least = omega (arith, le-aligned (filled s));
          multiple = aligned-multiple (filled s);
          within = within;
          is = sym g.size;
          flags = g.flags;
        },
        rw (kind-found p at s ok g) (read-kind s ok fit within g),
      )
