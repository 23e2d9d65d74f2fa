-- The statements of specs/Card.antt, each proved under its name: the card is the listing of the public sections, and these have a line for each
-- fact.
-- Assumes nothing.
use Rattle.std.specs.Prelude.{Ok}
use Prim.Native.Nat.{ℕ}
use mathlib.Core.Bool.{true}
use mathlib.Core.List.{List, [], ◌∷◌, map, flat_map}
use mathlib.Core.Path.{◌≡◌, refl, sym, ap, ◌∙◌}
use lib.ListN.{length, length-map, length-replicate}
use Rattle.layout.specs.Checked.{Checked}
use Rattle.layout.proofs.Checked.{then-passes}
use Rattle.format.specs.Card.{card_of, card_answer, card_output, fact_line, shown, CardOfFacts, SameCardCall}
use Rattle.format.specs.Display.{described, page, display}
use Rattle.format.specs.Encoding.{encode, within_limits}
use Rattle.format.specs.Listing.{listed}
use Rattle.format.specs.PublicFacts.{Fact, public_facts}
use Rattle.format.specs.Secrecy.{section_of}
use Rattle.format.specs.Sections.{Name, Section, plain, packed, names, arguments, unknown}
use Rattle.format.specs.WellFormed.{All, WellFormed}
use Rattle.format.proofs.Encoded.{resolves}
use Rattle.format.proofs.FactsOf.{fact_of, facts_of, public_sections}
use Rattle.format.proofs.PayloadRead.{read-payload}
use Rattle.format.proofs.PlacedRows.{rows_from}
use Rattle.format.proofs.PublicSections.{public-ok, public-fits}
use Rattle.format.proofs.Secrecy.{known, stores, placed}

-- the listing of an encoding is the display of its sections
pub listed-encoded : (ss : List Section) → All WellFormed ss → within_limits ss ≡ true → listed (encode ss) ≡ Ok (display ss)
unfolding listed
listed-encoded ss ok fit = then-passes _ _ (read-payload ss ok fit) (then-passes _ _ (resolves ss ok (encode ss) (rows_from 8 ss) refl refl []) refl)

-- ---- a line for each fact

-- the lines of the public sections of sections
lines-shown : (ss : List Section) → map described (public_sections ss) ≡ map fact_line (facts_of ss)
unfolding public_sections facts_of fact_of section_of flat_map fact_line described
lines-shown [] = refl
lines-shown (plain header texts ∷ ss) = rw (length-replicate {A = List ℕ} (length texts) [], lines-shown ss)
lines-shown (packed header stream count uncompressed ∷ ss) = rw (lines-shown ss)
lines-shown (names ns ∷ ss) =
    let texts : List (List ℕ) = map (λ (n : Name). n.text) ns in
    rw (length-map {B = Name} texts (λ (text : List ℕ). record { text = text; content_size = 1 }), length-map ns (λ (n : Name). n.text), lines-shown ss)
lines-shown (arguments xs ∷ ss) = rw (lines-shown ss)
lines-shown (unknown kind bytes ∷ ss) = lines-shown ss

display-shown : (ss : List Section) → display (public_sections ss) ≡ shown (facts_of ss)
unfolding display shown
display-shown ss = ap page (lines-shown ss)

pub card-of-facts : CardOfFacts
unfolding card_of
card-of-facts p h =
    let all = known p h in
    let ss : List Section = all.sections in
    then-passes _ _ all.copy (listed-encoded (public_sections ss) (public-ok ss all.ok) (public-fits ss all.fit)) ∙
    ap {B = Checked (List ℕ)} (λ (l : List ℕ). Ok l) (display-shown ss) ∙
    ap {B = Checked (List ℕ)} (λ (l : List Fact). Ok (shown l)) (sym all.facts)

pub same-card-call : SameCardCall
unfolding card_answer card_output
same-card-call p q h k e o₁ o₂ size =
    let bytes : List ℕ = shown (public_facts p) in
    let card = card-of-facts p h in
    let other : card_of q ≡ Ok bytes = card-of-facts q k ∙ ap {B = Checked (List ℕ)} (λ (l : List Fact). Ok (shown l)) (sym e) in (
      rw (card, other, size),
      (placed bytes (length o₁), stores (card_of p) bytes o₁ card, rw size (stores (card_of q) bytes o₂ other)),
    )
