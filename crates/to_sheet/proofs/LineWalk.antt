-- The lines of a section, by what it holds: its own line, and those of its entries or pairs.
-- Assumes nothing.
use Prim.Native.Nat.{ℕ, zero, suc, ◌+◌}
use mathlib.Core.List.{List, ◌++◌, map, flat_map, append-nil}
use mathlib.Core.Path.{◌≡◌, refl, ap}
use native.Mathlib.Omega.{arith}
use lib.ListN.{length, drop}
use lib.Seq.{length-take-le}
use Rattle.find.specs.Nul.{until_nul}
use Rattle.find.proofs.NulLaws.{until-length}
use Rattle.wire.specs.Length.{wire_size}
use Rattle.wire.specs.Number.{u32_at}
use Rattle.layout.specs.declared.section_type.SourceInfoSectionType.{SourceInfoSectionType}
use Rattle.format.specs.Display.{ascii}
use Rattle.format.specs.Parse.{after_pair}
use Rattle.format.specs.PublicFacts.{text_at, pairs_at}
use Rattle.format.specs.Records.{Record, pair_record}
use Rattle.format.specs.Walk.{places_from, pair_at}
use Rattle.accepted.specs.Body.{Holds}
use Rattle.accepted.specs.Entries.{Placed, placed, entries_from, pairs_from}
use Rattle.accepted.specs.declared.body.Body.TheVariants as body
use Rattle.sheet.specs.Lines.{line}
use Rattle.sheet.specs.SheetWalk.{content_at, name_at, plain_at, packed_at, unknown_at, entries_at, contents_records, section_records}
use Rattle.to_sheet.specs.Entry.{content_line, name_line, pair_line}

module _ (p : List ℕ) where
  -- ---- the lines of the walk are those of the entries, and of the pairs

  lines-entered :
      (record_at : List ℕ → ℕ → Record) (count at : ℕ) →
      flat_map line (entries_at p (record_at p) count at) ≡ flat_map (λ (e : Placed). line (record_at e.bytes e.at)) (entries_from p count at)
  unfolding entries_at entries_from places_from flat_map
  lines-entered record_at zero at = refl
  lines-entered record_at (suc count) at = ap (λ (l : List ℕ). line (record_at p at) ++ l) (lines-entered record_at count (at + u32_at p at))

  -- a text from a place on ends where its NUL stands
  text-long : (at : ℕ) → length (text_at p at) ≡ until_nul (drop at p)
  text-long at = length-take-le (until_nul (drop at p)) (drop at p) (until-length (drop at p))

  lines-paired : (count at : ℕ) → flat_map line (map pair_record (pairs_at p count at)) ≡ flat_map pair_line (pairs_from p count at)
  unfolding pairs_at pairs_from flat_map
  lines-paired zero at = refl
  lines-paired (suc count) at =
      let start : ℕ = at + wire_size (until_nul (drop at p)) in
      let there : at + length (text_at p at) + 1 ≡ start = omega (arith, text-long at) in
      let after : start + length (text_at p start) + 1 ≡ after_pair (pair_at p at) = omega (arith, text-long start) in
      rw (there, after) (ap (λ (l : List ℕ). pair_line (placed p at) ++ l) (lines-paired count (after_pair (pair_at p at))))

  -- ---- a section

  module _ (kind : SourceInfoSectionType) (at : ℕ) where
    abbrev said : List ℕ
    said = flat_map line (section_records p kind at)

    pub contents-said : (entries : List Placed) → Holds p kind at (body.Contents entries) → said ≡ line (plain_at p at) ++ flat_map content_line entries
    unfolding section_records contents_records flat_map
    contents-said entries (is, plain, all) = rw (is, plain, all) (ap (λ (l : List ℕ). line (plain_at p at) ++ l) (lines-entered content_at (u32_at p (at + 24)) (at + 28)))

    pub packed-said : Holds p kind at body.Packed → said ≡ line (packed_at p at)
    unfolding section_records contents_records flat_map
    packed-said (is, packed) = rw (is, packed) (append-nil (line (packed_at p at)))

    pub names-said : (entries : List Placed) → Holds p kind at (body.Names entries) → said ≡ ascii "names\n" ++ flat_map name_line entries
    unfolding section_records line ascii flat_map
    names-said entries (is, all) = rw (is, all) (ap (λ (l : List ℕ). ascii "names\n" ++ l) (lines-entered name_at (u32_at p (at + 12)) (at + 18)))

    pub pairs-said : (pairs : List Placed) → Holds p kind at (body.Arguments pairs) → said ≡ ascii "arguments\n" ++ flat_map pair_line pairs
    unfolding section_records line ascii flat_map
    pairs-said pairs (is, all) = rw (is, all) (ap (λ (l : List ℕ). ascii "arguments\n" ++ l) (lines-paired (u32_at p (at + 16)) (at + 20)))

    pub unknown-said : (number : ℕ) → Holds p kind at (body.Unknown number) → said ≡ line (unknown_at p number at)
    unfolding section_records flat_map
    unknown-said number is = rw is (append-nil (line (unknown_at p number at)))
