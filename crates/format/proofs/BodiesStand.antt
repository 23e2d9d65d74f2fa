-- A section that reading finds good is the bytes of a well-formed section, of each kind.
-- Assumes nothing.
use Rattle.std.specs.Prelude.{Ok}
use Prim.Native.Nat.{ℕ, zero, suc, ◌+◌, ◌-◌, ◌≤◌}
use mathlib.Core.Bool.{true}
use mathlib.Core.List.{List, [], ◌∷◌, flat_map}
use mathlib.Core.Path.{◌≡◌, refl, sym, ap, ◌∙◌}
use native.Mathlib.Omega.{arith}
use borrow.Author.Tests.{le-leb}
use lib.ListN.{length}
use Rattle.wire.specs.Number.{u16_at, u32_at}
use Rattle.wire.specs.Padding.{padding}
use Rattle.wire.proofs.PaddingLaws.{padding-by-arithmetic, aligned-of-multiple, all_zero-replicate}
use Rattle.layout.specs.Kinds.{kind_number, checked_compression}
use Rattle.layout.specs.Spans.{part}
use Rattle.layout.specs.declared.compression.SourceCompression.TheVariants.{None}
use Rattle.layout.specs.declared.section_type.SourceInfoSectionType.{SourceInfoSectionType}
use Rattle.layout.specs.declared.section_type.SourceInfoSectionType.TheVariants.{SourceContents, SourceNames, Arguments, Unknown}
use Rattle.layout.proofs.Promises.{kind-has-number}
use Rattle.layout.proofs.Unknown.{unknown-least}
use Rattle.table.specs.Rows.{plain_row, names_row, arguments_row}
use Rattle.table.specs.declared.row.Row.{Row}
use Rattle.format.specs.Encoding.{content_entry, name_entry, pair_entry, stored_bytes, body_header, kind_of, encode_section, countable}
use Rattle.format.specs.Parse.{parse_arguments, parse_names, packed_row_at, parse_stored, parse_contents, unknown_row_at, parse_section, kind_at}
use Rattle.format.specs.Sections.{Section, plain, packed, names, arguments, unknown}
use Rattle.format.specs.WellFormed.{Bytes, WellFormed}
use Rattle.format.proofs.FrameLaws.{Frame, Framed}
use Rattle.format.proofs.Items.{contents-items, names-items, pairs-items}
use Rattle.format.proofs.PlacedRows.{rows_of_section}
use Rattle.format.proofs.SectionBytes.{start, length-section, SectionAt, section-stands}
use Rattle.format.proofs.SectionLaws.{contents-good, plain-good, plain-equal, names-good, arguments-good}
use Rattle.format.proofs.Stands.{Stands, stands-none, part-stands, part_bytes, length_part, number-below, spelt, number-stands}

-- a section that stands at a place, spans a size and has these rows
pub record Found (p : List ℕ) (at size : ℕ) (rs : List Row) : Type 0 where
  pub section : Section
  pub stand : Stands p at (encode_section section)
  pub spans : length (encode_section section) ≡ size
  pub ok : WellFormed section
  pub fit : countable section ≡ true
  pub rows : rs ≡ rows_of_section at section

module _ (p : List ℕ) (bytes : Bytes p) (at size : ℕ) (frame : Frame p at size) (rs : List Row) where
  found :
      (s : Section) →
      u16_at p (at + 6) ≡ kind_number (kind_of s) →
      Framed p at size (start s) (length (stored_bytes s)) →
      Stands p (at + 8) (body_header s (length (stored_bytes s))) →
      Stands p (at + start s) (stored_bytes s) →
      WellFormed s →
      countable s ≡ true →
      rs ≡ rows_of_section at s →
      Found p at size rs
  found s kind framed header stored ok fit rows =
      let whole : SectionAt p at s =
      record { size = sym frame.is ∙ framed.sized; flags = frame.flags; kind = kind; header = header; stored = stored; zeros = framed.zeros } in
      record {
        section = s;
        stand = section-stands p at s (omega (arith, frame.within, framed.sized)) bytes whole;
        spans = length-section s ∙ sym framed.sized;
        ok = ok;
        fit = fit;
        rows = rows;
      }

  -- ---- names

  pub names_stand : u16_at p (at + 6) ≡ 1 → parse_names p at size ≡ Ok rs → Found p at size rs
  unfolding stored_bytes body_header kind_of countable rows_of_section
  names_stand kind e =
      let (framed, held, flags) = names-good p at size rs e in
      let stored : ℕ = u16_at p (at + 16) in
      let end : ℕ = at + 18 + stored in
      let inside : end ≤ length p = omega (arith, frame.within, framed.within) in
      let run = names-items p end inside bytes (u32_at p (at + 12)) (at + 18) held.rest held.found in
      let size_is : length (flat_map name_entry run.items) ≡ stored = omega (arith, run.ends) in
      found (names run.items) kind (rw size_is framed)
      (number-stands p 4 (at + 8) (at + 12) _ _ (omega arith) bytes (omega arith) flags
      (number-stands p 4 (at + 12) (at + 16) _ _ (omega arith) bytes (omega arith) (sym run.many) (rw size_is (spelt p bytes 2 (at + 16) (omega arith)))))
      run.stand run.ok
      (le-leb (length (flat_map name_entry run.items)) 65535 (omega (arith, size_is, number-below p bytes 2 (at + 16))))
      (held.all ∙ ap (λ (l : List Row). names_row ∷ l) run.rows)

  -- ---- arguments

  pub arguments-stand : u16_at p (at + 6) ≡ 2 → parse_arguments p at size ≡ Ok rs → Found p at size rs
  unfolding stored_bytes body_header kind_of countable rows_of_section
  arguments-stand kind e =
      let (framed, held, flags) = arguments-good p at size rs e in
      let stored : ℕ = u32_at p (at + 12) in
      let end : ℕ = at + 20 + stored in
      let inside : end ≤ length p = omega (arith, frame.within, framed.within) in
      let run = pairs-items p end inside bytes (u32_at p (at + 16)) (at + 20) held.rest held.found in
      let size_is : length (flat_map pair_entry run.items) ≡ stored = omega (arith, run.ends) in
      found (arguments run.items) kind (rw size_is framed)
      (number-stands p 4 (at + 8) (at + 12) _ _ (omega arith) bytes (omega arith) flags
      (number-stands p 4 (at + 12) (at + 16) _ _ (omega arith) bytes (omega arith) (sym size_is) (rw run.many (spelt p bytes 4 (at + 16) (omega arith)))))
      run.stand run.ok refl
      (held.all ∙ ap (λ (l : List Row). arguments_row ∷ l) run.rows)

  -- ---- contents

  plain-stand :
      u16_at p (at + 6) ≡ 0 →
      Framed p at size 28 (u32_at p (at + 16)) →
      u16_at p (at + 12) ≡ 0 →
      u16_at p (at + 14) ≡ 0 →
      parse_stored None p at ≡ Ok rs →
      Found p at size rs
  unfolding stored_bytes body_header kind_of countable rows_of_section
  plain-stand kind framed flags compression e =
      let held = plain-good p at rs e in
      let equal = plain-equal p at rs e in
      let stored : ℕ = u32_at p (at + 16) in
      let end : ℕ = at + 28 + stored in
      let inside : end ≤ length p = omega (arith, frame.within, framed.within) in
      let run = contents-items p end inside bytes (u32_at p (at + 24)) (at + 28) held.rest held.found in
      let size_is : length (flat_map content_entry run.items) ≡ stored = omega (arith, run.ends) in
      found (plain (u32_at p (at + 8)) run.items) kind (rw size_is framed)
      (number-stands p 4 (at + 8) (at + 12) _ _ (omega arith) bytes (omega arith) refl
      (number-stands p 2 (at + 12) (at + 14) _ _ (omega arith) bytes (omega arith) flags
      (number-stands p 2 (at + 14) (at + 16) _ _ (omega arith) bytes (omega arith) compression
      (number-stands p 4 (at + 16) (at + 20) _ _ (omega arith) bytes (omega arith) (sym size_is)
      (number-stands p 4 (at + 20) (at + 24) _ _ (omega arith) bytes (omega arith) (equal ∙ sym size_is) (rw run.many (spelt p bytes 4 (at + 24) (omega arith))))))))
      run.stand
      (number-below p bytes 4 (at + 8), run.ok) refl
      (held.all ∙ ap (λ (l : List Row). plain_row (u32_at p (at + 8)) ∷ l) run.rows)

  packed-stand :
      u16_at p (at + 6) ≡ 0 →
      Framed p at size 28 (u32_at p (at + 16)) →
      u16_at p (at + 12) ≡ 0 →
      u16_at p (at + 14) ≡ 1 →
      rs ≡ packed_row_at p at ∷ [] →
      Found p at size rs
  unfolding stored_bytes body_header kind_of countable rows_of_section
  packed-stand kind framed flags compression rows =
      let stored : ℕ = u32_at p (at + 16) in
      let room : at + 28 + stored ≤ length p = omega (arith, frame.within, framed.within) in
      let stream : List ℕ = part p (at + 28) stored in
      let size_is : length stream ≡ stored = length_part p (at + 28) stored room in
      found (packed (u32_at p (at + 8)) stream (u32_at p (at + 24)) (u32_at p (at + 20))) kind (rw size_is framed)
      (number-stands p 4 (at + 8) (at + 12) _ _ (omega arith) bytes (omega arith) refl
      (number-stands p 2 (at + 12) (at + 14) _ _ (omega arith) bytes (omega arith) flags
      (number-stands p 2 (at + 14) (at + 16) _ _ (omega arith) bytes (omega arith) compression
      (number-stands p 4 (at + 16) (at + 20) _ _ (omega arith) bytes (omega arith) (sym size_is)
      (number-stands p 4 (at + 20) (at + 24) _ _ (omega arith) bytes (omega arith) refl (spelt p bytes 4 (at + 24) (omega arith)))))))
      (part-stands p (at + 28) stored room)
      (number-below p bytes 4 (at + 8), part_bytes p bytes (at + 28) stored, number-below p bytes 4 (at + 24), number-below p bytes 4 (at + 20)) refl
      (rows ∙ rw size_is)

  pub contents-stand : u16_at p (at + 6) ≡ 0 → parse_contents p at size ≡ Ok rs → Found p at size rs
  unfolding parse_stored
  contents-stand kind e =
      let (framed, held, flags, known) = contents-good p at size rs e in
      go framed flags (u16_at p (at + 14)) refl held known
    where
      go :
          Framed p at size 28 (u32_at p (at + 16)) →
          u16_at p (at + 12) ≡ 0 →
          (n : ℕ) →
          u16_at p (at + 14) ≡ n →
          parse_stored (checked_compression n) p at ≡ Ok rs →
          n ≤ 1 →
          Found p at size rs
      go framed flags zero is held known = plain-stand kind framed flags is held
      go framed flags (suc zero) is held known = packed-stand kind framed flags is (cc)
      go framed flags (suc (suc n)) is held known = absurd (omega arith)

  -- ---- a section of an unknown kind, and of any

  pub unknown-stand : 3 ≤ u16_at p (at + 6) → rs ≡ unknown_row_at (u16_at p (at + 6)) at size ∷ [] → Found p at size rs
  unfolding stored_bytes body_header kind_of countable rows_of_section
  unknown-stand kind rows =
      let room : at + 8 + (size - 8) ≤ length p = omega (arith, frame.least, frame.within) in
      let all : List ℕ = part p (at + 8) (size - 8) in
      let size_is : length all ≡ size - 8 = length_part p (at + 8) (size - 8) room in
      let whole : 8 + (size - 8) ≡ size = omega (arith, frame.least) in
      let none : padding size ≡ 0 = omega (arith, padding-by-arithmetic size, frame.multiple) in
      let framed : Framed p at size 8 (length all) =
      rw size_is
      (record { sized = rw whole (sym (aligned-of-multiple size frame.multiple)); zeros = rw (whole, none) (all_zero-replicate 0); within = omega (arith, whole) }) in
      found (unknown (u16_at p (at + 6)) all) refl framed (stands-none p (at + 8)) (part-stands p (at + 8) (size - 8) room)
      (kind, omega (arith, number-below p bytes 2 (at + 6)), part_bytes p bytes (at + 8) (size - 8), rw size_is (omega (arith, frame.least, frame.multiple))) refl
      (rows ∙ rw size_is)

module _ (p : List ℕ) (bytes : Bytes p) (at size : ℕ) (frame : Frame p at size) where
  pub section-found : (rs : List Row) → parse_section (kind_at p at) p at size ≡ Ok rs → Found p at size rs
  unfolding parse_section
  section-found rs e = go (kind_at p at) refl e
    where
      -- its number is that of its kind
      number : (kind : SourceInfoSectionType) → kind_at p at ≡ kind → u16_at p (at + 6) ≡ kind_number kind
      number kind is = sym (kind-has-number (u16_at p (at + 6))) ∙ ap kind_number is

      go : (kind : SourceInfoSectionType) → kind_at p at ≡ kind → parse_section kind p at size ≡ Ok rs → Found p at size rs
      go SourceContents is f = contents-stand p bytes at size frame rs (number SourceContents is) f
      go SourceNames is f = names_stand p bytes at size frame rs (number SourceNames is) f
      go Arguments is f = arguments-stand p bytes at size frame rs (number Arguments is) f
      go (Unknown kind) is f =
          let one : rs ≡ unknown_row_at kind at size ∷ [] = cc in
          unknown-stand p bytes at size frame rs (unknown-least (u16_at p (at + 6)) kind is) (rw (number (Unknown kind) is) one)
