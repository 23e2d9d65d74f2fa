-- An accepted payload is the encoding of well-formed sections within the limits, and its rows are those of these sections.
-- Assumes nothing.
use Rattle.std.specs.Prelude.{Ok}
use Prim.Native.Nat.{ℕ, zero, suc, ◌+◌, ◌≤◌}
use mathlib.Core.Bool.{true, ◌&&◌}
use mathlib.Core.List.{List, [], ◌∷◌, ◌++◌, flat_map}
use mathlib.Core.Path.{◌≡◌, refl, sym, ap, ap₂, ◌∙◌}
use native.Mathlib.Omega.{arith}
use lib.ListN.{length, length-append}
use Rattle.wire.specs.Number.{u16_at, u32_at}
use Rattle.table.specs.declared.row.Row.{Row}
use Rattle.format.specs.Encoding.{limit, encode_section, encode, all_countable, within_limits}
use Rattle.format.specs.Parse.{parse_sections, parse}
use Rattle.format.specs.Sections.{Section}
use Rattle.format.specs.WellFormed.{Bytes, All, WellFormed}
use Rattle.format.proofs.BodiesStand.{section-found}
use Rattle.format.proofs.Encoding.{length-encode, limits-found}
use Rattle.format.proofs.PlacedRows.{rows_from}
use Rattle.format.proofs.SectionLaws.{sections-good, sections-end, parse-good}
use Rattle.format.proofs.Stands.{Stands, stands-none, stands-join, stands-whole, number-below, number-stands}

-- sections that stand from a place on, up to the payload's end
pub record Sections (p : List ℕ) (at count : ℕ) (rs : List Row) : Type 0 where
  pub sections : List Section
  pub stand : Stands p at (flat_map encode_section sections)
  pub many : length sections ≡ count
  pub ends : at + length (flat_map encode_section sections) ≡ length p
  pub ok : All WellFormed sections
  pub fit : all_countable sections ≡ true
  pub rows : rs ≡ rows_from at sections

sections-stand : (p : List ℕ) → Bytes p → (count at : ℕ) (rs : List Row) → parse_sections count p at ≡ Ok rs → Sections p at count rs
unfolding flat_map rows_from all_countable
sections-stand p bytes zero at rs e =
    let (ends, none) = sections-end p at rs e in
    record { sections = []; stand = stands-none p at; many = refl; ends = omega (arith, ends); ok = tt; fit = refl; rows = none }
sections-stand p bytes (suc count) at rs e =
    let told = sections-good p at count rs e in
    let size : ℕ = u32_at p at in
    let first = section-found p bytes at size told.frame told.first told.first_good in
    let rest = sections-stand p bytes count (at + size) told.rest told.rest-good in
    let s : Section = first.section in
    let ss : List Section = rest.sections in
    let next : at + size ≡ at + length (encode_section s) = omega (arith, first.spans) in
    record {
      sections = s ∷ ss;
      stand = stands-join p at (encode_section s) (flat_map encode_section ss) (at + size) next first.stand rest.stand;
      many = ap suc rest.many;
      ends = omega (arith, rest.ends, length-append (encode_section s) (flat_map encode_section ss));
      ok = (first.ok, rest.ok);
      fit = ap₂ ◌&&◌ first.fit rest.fit;
      rows = told.all ∙ ap₂ (λ (a b : List Row). a ++ b) first.rows (rest.rows ∙ ap (λ (k : ℕ). rows_from k ss) next);
    }

-- what an accepted payload is: the encoding of well-formed sections, which stand in it after the main header
pub record Payload (p : List ℕ) (rs : List Row) : Type 0 where
  pub sections : List Section
  pub small : length p ≤ limit
  pub many : u16_at p 6 ≡ length sections
  pub stand : Stands p 8 (flat_map encode_section sections)
  pub ends : 8 + length (flat_map encode_section sections) ≡ length p
  pub ok : All WellFormed sections
  pub fit : within_limits sections ≡ true
  pub is : encode sections ≡ p
  pub rows : rs ≡ rows_from 8 sections

pub payload-stands : (p : List ℕ) → Bytes p → (rs : List Row) → parse p ≡ Ok rs → Payload p rs
unfolding encode
payload-stands p bytes rs e =
    let (small, found, least, long, flags) = parse-good p rs e in
    let all = sections-stand p bytes (u16_at p 6) 8 rs found in
    let ss : List Section = all.sections in
    let whole : length (encode ss) ≡ length p = length-encode ss ∙ all.ends in
    let is : encode ss ≡ p =
    stands-whole p (encode ss) whole
    (number-stands p 4 0 4 _ _ (omega arith) bytes (omega arith) (long ∙ sym all.ends)
    (number-stands p 2 4 6 _ _ (omega arith) bytes (omega arith) flags
    (number-stands p 2 6 8 _ _ (omega arith) bytes (omega arith) (sym all.many) all.stand))) in
    let few : length ss ≤ 65535 = omega (arith, all.many, number-below p bytes 2 6) in
    record {
      sections = ss;
      small = small;
      many = sym all.many;
      stand = all.stand;
      ends = all.ends;
      ok = all.ok;
      fit = limits-found ss few all.fit (omega arith);
      is = is;
      rows = all.rows;
    }
