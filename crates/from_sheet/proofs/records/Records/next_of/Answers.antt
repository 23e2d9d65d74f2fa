-- `next_of` meets its contract: no record is left, or the one ahead has the tag or not.
use Rattle.std.proofs.Common.{◌≡◌, [], ◌∷◌, List, true, false, rules, refl, sym, ap, ◌∙◌, length, arith}
use Rattle.std.specs.Prelude.{Option, Some, None, MatchOption}
use Rattle.table.specs.Tags.{same_tag}
use Rattle.table.specs.declared.tag.Tag.{Tag}
use Rattle.table.proofs.Tags.{tag_same, same_tags}
use Rattle.format.specs.Records.{Record}
use Rattle.from_sheet.specs.Records.{ahead_of, records_in}
use Rattle.from_sheet.specs.Run.{run}
use Rattle.from_sheet.proofs.RunLaws.{run_none, run-stops}
use Rattle.from_sheet.proofs.records.Records.next_of.Goals as goal

-- the next one is the one ahead
first :
    (t : Tag) (ahead : Record) (rs old new : List Record) (next : Option Record) →
    old ≡ ahead ∷ rs →
    ahead.tag ≡ t →
    MatchOption next ((old ≡ []) × (new ≡ [])) (λ r. old ≡ r ∷ new) →
    MatchOption next ((run (Some t) old ≡ []) × (new ≡ old)) (λ r. (r.tag ≡ t) × (old ≡ r ∷ new))
first t ahead rs old new None is own h = absurd (omega (arith, ap length is, ap length h.0))
first t ahead rs old new (Some r) is own h =
    let same : r ∷ new ≡ ahead ∷ rs = sym h ∙ is in
    let one : r ≡ ahead = cc in
    (ap (λ (r : Record). r.tag) one ∙ own, h)

pub returns-in_err-as_ref : goal.returns-in_err-as_ref
returns-in_err-as_ref c =
    let none : c.args.self.now ≡ [] = sym c.self.view_is ∙ sym (ap (λ (r : Option Record). ahead_of r (records_in c.self.inside.rest.now)) c.in_err-as_ref.ensures.value) in
    rw c.from_residual.ensures (rw none (run_none (Some c.args.tag)).0, refl)

pub returns-then-ne : goal.returns-then-ne
returns-then-ne c =
    let rest = records_in c.self.inside.rest.now in
    let is = sym c.self.view_is ∙ sym (ap (λ (r : Option Record). ahead_of r rest) c.in_ok-as_ref.ensures.value) in
    let other : same_tag (Some c.tag.result) (Some c.args.tag) ≡ false = search (rules, same_tags) in
    (rw is (run-stops (Some c.args.tag) _ rest (ap (λ (t : Tag). same_tag (Some t) (Some c.args.tag)) (sym c.tag.ensures) ∙ other)).0, refl)

pub returns : goal.returns
returns c =
    let rest = records_in c.self.inside.rest.now in
    let is = sym c.self.view_is ∙ sym (ap (λ (r : Option Record). ahead_of r rest) c.in_ok-as_ref.ensures.value) in
    let same : same_tag (Some c.tag.result) (Some c.args.tag) ≡ true = search (rules, same_tags) in
    let own : _ ≡ c.args.tag = cc (c.tag.ensures, tag_same _ _ same) in
    first c.args.tag _ rest c.args.self.now c.next.new.self c.next.result is own c.next.ensures.steps
