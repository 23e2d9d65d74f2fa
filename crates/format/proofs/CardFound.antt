-- The walk of specs/CardWalk.antt finds the card: where sections stand, each line's numbers are those of the section's fact.
-- Assumes nothing.
use Rattle.std.specs.Prelude.{Ok}
use Prim.Native.Nat.{ℕ}
use mathlib.Core.List.{List, map, flat_map}
use mathlib.Core.Path.{◌≡◌, refl, sym, ap, ◌∙◌}
use Rattle.layout.specs.Checked.{Checked}
use Rattle.layout.proofs.Lists.{map-flat_map}
use Rattle.table.specs.declared.row.Row.{Row}
use Rattle.format.specs.Card.{card_of, fact_line, shown}
use Rattle.format.specs.CardWalk.{public_contents_line, public_line, public_line_at, card}
use Rattle.format.specs.Display.{page}
use Rattle.format.specs.Encoding.{kind_of}
use Rattle.format.specs.Parse.{parse}
use Rattle.format.specs.PublicFacts.{Fact, public_facts}
use Rattle.format.specs.Read.{accepted}
use Rattle.format.specs.Sections.{Section, plain, packed, names, arguments, unknown}
use Rattle.format.specs.Walk.{places}
use Rattle.format.specs.WellFormed.{Bytes}
use Rattle.format.proofs.Card.{card-of-facts}
use Rattle.format.proofs.FactsFound.{public-facts}
use Rattle.format.proofs.FactsOf.{fact_of, facts_of}
use Rattle.format.proofs.PayloadStands.{payload-stands}
use Rattle.format.proofs.SectionsFound.{Here, paired-flat_map, payload-here}

-- a section's line, where the section stands
line-shown : (p : List ℕ) (at : ℕ) (s : Section) → Here p at s → public_line_at p at ≡ map fact_line (fact_of s)
unfolding public_line public_contents_line fact_line fact_of kind_of
line-shown p at s h = rw h.kind (go s h)
  where
    go : (s : Section) → Here p at s → public_line p (kind_of s) at ≡ map fact_line (fact_of s)
    go (plain header texts) h = let (field, flags, compression, bytes, equal, count) = h.fields in rw (compression, count)
    go (packed header stream many uncompressed) h = let (field, flags, compression, bytes, size, count) = h.fields in rw (compression, count)
    go (names ns) h = let (flags, count, bytes) = h.fields in rw count
    go (arguments xs) h = let (flags, bytes, count) = h.fields in rw count
    go (unknown kind bytes) h = refl

-- of an accepted payload the walk is the card
pub card-found : (p : List ℕ) (rows : List Row) → Bytes p → parse p ≡ Ok rows → card_of p ≡ Ok (card p)
unfolding card shown accepted facts_of
card-found p rows bytes e =
    let all = payload-stands p bytes rows e in
    let ss : List Section = all.sections in
    let taken : flat_map (public_line_at p) (places p) ≡ map fact_line (facts_of ss) =
    paired-flat_map (Here p) (public_line_at p) (λ (s : Section). map fact_line (fact_of s)) (line-shown p) (places p) ss (payload-here p rows all) ∙ map-flat_map fact_of fact_line ss in
    let facts : public_facts p ≡ facts_of ss = ap public_facts (sym all.is) ∙ public-facts ss all.ok all.fit in
    card-of-facts p (bytes, rw e refl) ∙
    ap {B = Checked (List ℕ)} (λ (l : List Fact). Ok (shown l)) facts ∙
    ap {B = Checked (List ℕ)} (λ (l : List (List ℕ)). Ok (page l)) (sym taken)
