-- The walk of specs/Lines.antt finds the listing: where sections stand, each line's numbers are those of the section's headers.
-- Assumes nothing.
use Rattle.std.specs.Prelude.{Ok}
use Prim.Native.Nat.{ℕ, ◌+◌, ◌-◌}
use mathlib.Core.List.{List, [], map}
use mathlib.Core.Path.{◌≡◌, sym, ap, ◌∙◌}
use native.Mathlib.Omega.{arith}
use lib.ListN.{length}
use Rattle.wire.specs.Number.{u32_at}
use Rattle.wire.specs.Padding.{aligned}
use Rattle.wire.proofs.PaddingLaws.{aligned-of-multiple}
use Rattle.layout.specs.Checked.{Checked}
use Rattle.table.specs.declared.row.Row.{Row}
use Rattle.format.specs.Display.{described, unknown_line, page, display}
use Rattle.format.specs.Encoding.{stored_bytes, kind_of}
use Rattle.format.specs.Lines.{contents_line, section_line, line_at, listing}
use Rattle.format.specs.Listing.{listed}
use Rattle.format.specs.Parse.{parse}
use Rattle.format.specs.Sections.{Section, plain, packed, names, arguments, unknown}
use Rattle.format.specs.Walk.{places}
use Rattle.format.specs.WellFormed.{Bytes}
use Rattle.format.proofs.Encoded.{sections-are}
use Rattle.format.proofs.PayloadStands.{payload-stands}
use Rattle.format.proofs.RoundTrips.{lists-sections}
use Rattle.format.proofs.SectionsFound.{Here, paired-map, payload-here}

-- a section's line, where the section stands
line-found : (p : List ℕ) (at : ℕ) (s : Section) → Here p at s → line_at p at ≡ described s
unfolding section_line contents_line described kind_of stored_bytes
line-found p at s h = rw h.kind (go s h)
  where
    go : (s : Section) → Here p at s → section_line p (kind_of s) at ≡ described s
    go (plain header texts) h = let (field, flags, compression, bytes, equal, count) = h.fields in rw (compression, count)
    go (packed header stream many uncompressed) h = let (field, flags, compression, bytes, size, count) = h.fields in rw (compression, count, bytes)
    go (names ns) h = let (flags, count, bytes) = h.fields in rw count
    go (arguments xs) h = let (flags, bytes, count) = h.fields in rw count
    go (unknown kind bytes) h =
        let size : u32_at p at ≡ aligned (8 + length bytes) = h.parts.size in
        let whole : u32_at p at - 8 ≡ length bytes = omega (arith, aligned-of-multiple (8 + length bytes) (omega (arith, h.ok.3))) in
        ap (unknown_line kind) whole

-- of an accepted payload the walk is the listing
pub listing-found : (p : List ℕ) (rows : List Row) → Bytes p → parse p ≡ Ok rows → listed p ≡ Ok (listing p)
unfolding display listing
listing-found p rows bytes e =
    let all = payload-stands p bytes rows e in
    let ss : List Section = all.sections in
    let same : map described ss ≡ map (line_at p) (places p) = sym (paired-map (Here p) (line_at p) described (line-found p) (places p) ss (payload-here p rows all)) in
    lists-sections p rows bytes e ∙
    ap {B = Checked (List ℕ)} (λ (l : List Section). Ok (display l)) (sections-are ss all.ok p rows all.is all.rows []) ∙
    ap {B = Checked (List ℕ)} (λ (l : List (List ℕ)). Ok (page l)) same
