-- The statements of specs/Secrecy.antt, each proved under its name. All rest on this: an accepted payload is the encoding of sections, its public
-- copy that of its public sections, and its public facts are theirs.
-- Assumes nothing.
use Rattle.std.specs.Prelude.{Ok}
use Prim.Native.Nat.{ℕ}
use mathlib.Core.Bool.{Bool, true, false, cond}
use mathlib.Core.List.{List, [], ◌++◌}
use mathlib.Core.Path.{◌≡◌, refl, sym, ap, ◌∙◌}
use native.Mathlib.Omega.{arith}
use lib.Dec.{leb}
use lib.ListN.{length, drop}
use Rattle.layout.specs.Checked.{Checked}
use Rattle.format.specs.Encoding.{encode, within_limits}
use Rattle.format.specs.Output.{answer, output_after}
use Rattle.format.specs.PublicCopy.{public_copy, copy_answer, copy_output}
use Rattle.format.specs.PublicFacts.{Fact, public_facts}
use Rattle.format.specs.Read.{accepted}
use Rattle.format.specs.Secrecy.{AcceptedPayload, made, CopyOfFacts, EqualExactly, SameCall, CopyIsPublic, WrittenIsAccepted, RefusedForRoom}
use Rattle.format.specs.Sections.{Section}
use Rattle.format.specs.WellFormed.{All, WellFormed}
use Rattle.format.proofs.EncodedBytes.{encoded-bytes}
use Rattle.format.proofs.FactsFound.{public-facts}
use Rattle.format.proofs.FactsOf.{facts_of, public_sections}
use Rattle.format.proofs.Output.{for-room}
use Rattle.format.proofs.PayloadRead.{read-payload}
use Rattle.format.proofs.PublicRows.{public-copy-is}
use Rattle.format.proofs.PublicSections.{public-ok, public-same, public-again, public-shorter, public-fits}
use Rattle.format.proofs.RoundTrips.{accepted-is-encoded, reads-back}

-- what is known of an accepted payload by its sections
pub record Known (p : List ℕ) : Type 0 where
  pub sections : List Section
  pub ok : All WellFormed sections
  pub fit : within_limits sections ≡ true
  pub is : encode sections ≡ p
  pub copy : public_copy p ≡ Ok (encode (public_sections sections))
  pub facts : public_facts p ≡ facts_of sections

pub known : (p : List ℕ) → AcceptedPayload p → Known p
known p (bytes, e) =
    let (ss, ok, fit, is) = accepted-is-encoded p bytes e in
    record {
      sections = ss;
      ok = ok;
      fit = fit;
      is = is;
      copy = sym (ap public_copy is) ∙ public-copy-is ss ok (public-fits ss fit) fit;
      facts = sym (ap public_facts is) ∙ public-facts ss ok fit;
    }

pub copy-of-facts : CopyOfFacts
unfolding made public_sections
copy-of-facts p h =
    let all = known p h in
    all.copy ∙ ap {B = Checked (List ℕ)} (λ (l : List Fact). Ok (made l)) (sym all.facts)

pub copy-is-public : CopyIsPublic
unfolding accepted
copy-is-public p h =
    let all = known p h in
    let ss : List Section = all.sections in
    let ts : List Section = public_sections ss in
    let ok = public-ok ss all.ok in
    let fit = public-fits ss all.fit in (
      encode ts,
      all.copy,
      (encoded-bytes ts ok, rw (read-payload ts ok fit)),
      public-facts ts ok fit ∙ public-same ss ∙ sym all.facts,
      public-copy-is ts ok (public-fits ts fit) fit ∙ ap {B = Checked (List ℕ)} (λ (l : List Section). Ok (encode l)) (public-again ss),
      omega (arith, public-shorter ss, ap length all.is),
    )

pub written-is-accepted : WrittenIsAccepted
unfolding accepted
written-is-accepted payload edit q rows bytes bytes' fit e =
    let (whole, again, found, same) = reads-back payload edit q rows bytes bytes' fit e in
    let ok : AcceptedPayload q = (whole, rw found) in
    let copy = copy-is-public q ok in
    (ok, copy.0, copy.1)

-- equal facts make equal copies
same_copy : (p q : List ℕ) → AcceptedPayload p → AcceptedPayload q → public_facts p ≡ public_facts q → public_copy p ≡ public_copy q
same_copy p q h k e =
    copy-of-facts p h ∙ ap {B = Checked (List ℕ)} (λ (l : List Fact). Ok (made l)) e ∙ sym (copy-of-facts q k)

pub equal-exactly : EqualExactly
equal-exactly p q h k = (same_copy p q h k, back)
  where
    back : public_copy p ≡ public_copy q → public_facts p ≡ public_facts q
    back e =
        let one = copy-is-public p h in
        let other = copy-is-public q k in
        cc

-- ---- the call

-- the bytes that a call stores where room for so many is lent: all that it makes, or none
abbrev pub placed : List ℕ → ℕ → List ℕ
placed bytes room = cond (leb (length bytes) room) bytes []

pub stores :
    (made : Checked (List ℕ)) (bytes output : List ℕ) →
    made ≡ Ok bytes →
    output_after made output ≡ placed bytes (length output) ++ drop (length (placed bytes (length output))) output
unfolding output_after
stores made bytes output e = ap (λ (c : Checked (List ℕ)). output_after c output) e ∙ go (leb (length bytes) (length output))
  where
    go : (fits : Bool) → cond fits (bytes ++ drop (length bytes) output) output ≡ cond fits bytes [] ++ drop (length (cond fits bytes [])) output
    go true = refl
    go false = refl

pub same-call : SameCall
unfolding copy_answer copy_output
same-call p q h k e o₁ o₂ size =
    let bytes : List ℕ = made (public_facts p) in
    let copy = copy-of-facts p h in
    let same = same_copy p q h k e in (
      rw (same, size),
      (placed bytes (length o₁), stores (public_copy p) bytes o₁ copy, rw size (stores (public_copy q) bytes o₂ (sym same ∙ copy))),
    )

pub refused-for-room : RefusedForRoom
unfolding copy_answer
refused-for-room p room refusal h e =
    for-room (made (public_facts p)) room refusal (sym (ap (λ (c : Checked (List ℕ)). answer c room) (copy-of-facts p h)) ∙ e)
