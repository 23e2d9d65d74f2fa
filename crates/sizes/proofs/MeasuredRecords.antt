-- Measuring records in order comes to the length of what their sections encode to, or to the refusal of sections that are not within the limits. What is
-- kept, with what the records that are left add to it, is within the limits exactly where the sections are; a size that was capped is past its limit
-- either way.
-- Assumes nothing.
use Rattle.std.specs.Prelude.{Option, Some, None, Err, Ok}
use Prim.Native.Nat.{ℕ, ◌+◌, ◌≤◌}
use mathlib.Core.Bool.{Bool, true, false, cond, not, and-eq-true_iff, ◌&&◌}
use mathlib.Core.List.{List, [], ◌∷◌, ◌++◌, flat_map}
use mathlib.Core.Logic.{◌⊎◌, inl, inr, ⊎_elim}
use mathlib.Core.Path.{◌≡◌, refl, sym, ap, ◌∙◌}
use native.Mathlib.Nat.{add-zero}
use native.Mathlib.Omega.{arith}
use borrow.Author.Tests.{leb-true, le-leb, le-ltb, ltb-false, not-true}
use lib.Dec.{leb, ltb}
use lib.ListN.{length, length-append}
use Rattle.std.proofs.lemmas.Bool.{false_from_ne_true, or_parts}
use Rattle.std.specs.List.{sum}
use Rattle.std.proofs.lemmas.List.Sums.{sum_by-cons}
use Rattle.wire.specs.Padding.{aligned}
use Rattle.wire.proofs.PaddingLaws.{le-aligned, aligned-of-multiple}
use Rattle.layout.specs.Checked.{check}
use Rattle.layout.specs.declared.refusal.Refusal.TheVariants.{WontFit}
use Rattle.table.specs.Tags.{same_tag, entry_tag, entry_after, begins_section}
use Rattle.table.specs.declared.tag.Tag.{Tag}
use Rattle.table.specs.declared.tag.Tag.TheVariants.{PlainContents, PackedContents, Names, Arguments, Unknown, Content, Name, Pair}
use Rattle.table.proofs.Tags.{same_tag_lem, tag_same, other_tag, tag-discrete, section-no-entry}
use Rattle.format.specs.Encoding.{limit, encode_section, encode, countable, all_countable, within_limits}
use Rattle.format.specs.Records.{Record, text, leading, sections, is_placed, in_order}
use Rattle.format.specs.Sections.{Section}
use Rattle.format.proofs.Encoding.{length-encode, limits-good, limits-found}
use Rattle.format.proofs.Records.{begins-none}
use Rattle.format.proofs.RecordsByTag.{leading-more, leading-ends}
use Rattle.sizes.proofs.Capped.{capped_small, small-capped}
use Rattle.sizes.proofs.SectionSizes.{opens, adds, entries_size, none-add, begins}
use Rattle.sizes.specs.Measure.{capped, opened, count_limit, begin, widest, extend, advance, nothing, finish, measure_records}
use Rattle.sizes.specs.declared.sizes.Sizes.{Sizes}

-- ---- what is measured, with what the records that are left add

abbrev left : Sizes → List Record → ℕ
left m rs = m.current + entries_size (entry_after m.previous) rs

abbrev total : Sizes → List Record → ℕ
total m rs = m.complete + (aligned (left m rs) + length (flat_map encode_section (sections rs)))

-- within the limits
record Fit (m : Sizes) (rs : List Record) : Type 0 where
  few : m.sections + length (sections rs) ≤ count_limit
  narrow : m.wide ≡ false
  entries : entry_after m.previous ≡ Some Name → left m rs ≤ widest
  all : all_countable (sections rs) ≡ true
  small : total m rs ≤ limit

-- what was found narrow is
abbrev Sound : Sizes → Type 0
Sound m = m.wide ≡ false → entry_after m.previous ≡ Some Name → m.current ≤ widest

-- a record counted: one that begins a section, one that is an entry, and any
abbrev opening : Sizes → Record → Sizes
opening m r = begin m r.tag (length (text 0 r))

abbrev extending : Sizes → Record → Sizes
extending m r = extend m r.tag (length (text 0 r)) (length (text 1 r))

abbrev next : Sizes → Record → Sizes
next m r = advance m (Some r.tag) (length (text 0 r)) (length (text 1 r))

-- one step comes to the same
record Same (m after : Sizes) (r : Record) (rs : List Record) : Type 0 where
  back : Fit after rs → Fit m (r ∷ rs) × (total after rs ≡ total m (r ∷ rs))
  forth : Fit m (r ∷ rs) → Fit after rs
  sound : Sound after

still-narrow : (t : Tag) (size : ℕ) → (t ≡ Name → size ≤ widest) → (same_tag (Some t) (Some Name) && ltb widest size) ≡ false
still-narrow t size h =
    elim (tag-discrete (Some t) (Some Name)) [
      | yes q ↦ rw (same_tag_lem (Some t) (Some Name) q, le-ltb widest size (h (cc)))
      | no n ↦ rw (other_tag (Some t) (Some Name) n)
    ]

-- ---- a record

-- after an entry others of its tag may stand
entry-again : (previous : Option Tag) → entry_after (entry_after previous) ≡ entry_after previous
entry-again None = refl
entry-again (Some PlainContents) = refl
entry-again (Some PackedContents) = refl
entry-again (Some Names) = refl
entry-again (Some Arguments) = refl
entry-again (Some Unknown) = refl
entry-again (Some Content) = refl
entry-again (Some Name) = refl
entry-again (Some Pair) = refl

names-begin : (t : Tag) → begins_section t ≡ true → entry_tag t ≡ Some Name → (first : ℕ) → opened t first ≡ 18
unfolding opened
names-begin PlainContents b q first = cc
names-begin PackedContents b q first = cc
names-begin Names b q first = refl
names-begin Arguments b q first = cc
names-begin Unknown b q first = cc
names-begin Content b q first = cc
names-begin Name b q first = cc
names-begin Pair b q first = cc

module _ (m : Sizes) (r : Record) (rs : List Record) where
  abbrev t : Tag
  t = r.tag

  -- one that is an entry
  module _ (entry : begins_section t ≡ false) (own : entry_after m.previous ≡ Some t) where
    abbrev current : ℕ
    current = m.current + adds r

    abbrev extended : Sizes
    extended = extending m r

    fixed : entry_tag t ≡ Some t
    fixed = rw own at (entry-again m.previous)

    entries-add : entries_size (entry_after m.previous) (r ∷ rs) ≡ adds r + entries_size (entry_tag t) rs
    unfolding entries_size
    entries-add = rw (own, fixed, leading-more (Some t) adds r rs refl) (sum_by-cons (λ n. n) (adds r) (leading (Some t) adds rs))

    same-sections : sections (r ∷ rs) ≡ sections rs
    unfolding sections
    same-sections = ap (λ (l : List Section). l ++ sections rs) (begins-none t entry r rs)

    -- a size within the limit was not capped
    uncapped : current ≤ limit → (capped limit current ≡ current) × (left m (r ∷ rs) ≡ left extended rs) × (total extended rs ≡ total m (r ∷ rs))
    uncapped h =
        let cap = capped_small limit current h in
        let whole : left m (r ∷ rs) ≡ left extended rs = omega (arith, entries-add) in
        let sections = same-sections in
        (cap, whole, cc)

    extend_same : Same m extended r rs
    extend_same =
        record {
          back = λ f.
              let cap : capped limit current ≤ limit = omega (arith, f.small, le-aligned (left extended rs)) in
              let (same, whole, sum) = uncapped (small-capped limit current cap) in (
                record {
                  few = rw same-sections f.few;
                  narrow = (or_parts m.wide _ f.narrow).0;
                  entries = λ q. rw whole (f.entries (fixed ∙ sym own ∙ q));
                  all = rw same-sections f.all;
                  small = rw (← sum) f.small;
                },
                sum,
              );
          forth = λ f.
              let cap : current ≤ limit = omega (arith, f.small, entries-add, le-aligned (left m (r ∷ rs))) in
              let (same, whole, sum) = uncapped cap in
              record {
                few = rw (← same-sections) f.few;
                narrow = rw f.narrow (still-narrow t (capped limit current) (λ q. omega (arith, same, entries-add, f.entries (own ∙ ap Some q))));
                entries = λ q. rw (← whole) (f.entries (own ∙ sym fixed ∙ q));
                all = rw (← same-sections) f.all;
                small = rw sum f.small;
              };
          sound = λ e q.
              let name : Some t ≡ Some Name = sym fixed ∙ q in
              ltb-false widest (capped limit current) (rw (same_tag_lem (Some t) (Some Name) name) at (or_parts m.wide _ e).1);
        }

  -- one that begins a section
  module _ (low : begins_section t ≡ true) (sound : Sound m) where
    abbrev before : ℕ
    before = m.complete + aligned m.current

    abbrev headed : ℕ
    headed = opens t r

    abbrev opened-sizes : Sizes
    opened-sizes = opening m r

    -- the section before has no more entries
    ended : left m (r ∷ rs) ≡ m.current
    unfolding entries_size
    ended =
        let none = leading-ends (entry_after m.previous) adds r rs (λ q. section-no-entry (Some t) m.previous low q) in
        omega (arith, ap sum none)

    begin-same : Same m opened-sizes r rs
    unfolding flat_map all_countable sections
    begin-same =
        let b = begins t r rs low in
        let s : Section = b.is in
        let ss : List Section = sections rs in
        let more : sections (r ∷ rs) ≡ s ∷ ss = ap (λ (l : List Section). l ++ ss) b.one in
        let rest : length (flat_map encode_section (sections (r ∷ rs))) ≡ length (encode_section s) + length (flat_map encode_section ss) =
        ap (λ (l : List Section). length (flat_map encode_section l)) more ∙ length-append (encode_section s) (flat_map encode_section ss) in
        let whole : total m (r ∷ rs) ≡ before + (aligned (headed + entries_size (entry_tag t) rs) + length (flat_map encode_section ss)) = omega (arith, rest, b.size, ap aligned ended) in
        let joined : before ≤ limit → headed ≤ limit → total opened-sizes rs ≡ total m (r ∷ rs) =
        λ p h. rw (capped_small limit before p, capped_small limit headed h) (sym whole) in
        record {
          back = λ f.
              let entries : ℕ = entries_size (entry_tag t) rs in
              let counted : m.sections + 1 ≤ count_limit = small-capped count_limit (m.sections + 1) (omega (arith, f.few)) in
              let p : before ≤ limit = small-capped limit before (omega (arith, f.small)) in
              let h : headed ≤ limit = small-capped limit headed (omega (arith, f.small, le-aligned (capped limit headed + entries))) in
              let same : capped limit headed ≡ headed = capped_small limit headed h in (
                record {
                  few = rw more (omega (arith, f.few, capped_small count_limit (m.sections + 1) counted));
                  narrow = f.narrow;
                  entries = λ q. rw ended (sound f.narrow q);
                  all = rw (more, b.counted (λ q. omega (arith, same, f.entries q))) f.all;
                  small = rw (← joined p h) f.small;
                },
                joined p h,
              );
          forth = λ f.
              let entries : ℕ = entries_size (entry_tag t) rs in
              let (this, others) = (and-eq-true_iff (countable s) (all_countable ss)).0 (rw more at f.all) in
              let few : m.sections + (length ss + 1) ≤ count_limit = omega (arith, rw more at f.few) in
              let p : before ≤ limit = omega (arith, f.small, whole) in
              let h : headed ≤ limit = omega (arith, f.small, whole, le-aligned (headed + entries)) in
              record {
                few = omega (arith, few, capped_small count_limit (m.sections + 1) (omega arith));
                narrow = f.narrow;
                entries = λ q. rw (capped_small limit headed h) (b.narrow this q);
                all = others;
                small = rw (joined p h) f.small;
              };
          sound = λ e q. let eighteen = names-begin t low q (length (text 0 r)) in rw (eighteen, capped_small limit 18 (omega arith)) (omega arith);
        }

-- ---- records

pub next-tag : (m : Sizes) (t : Option Tag) (first second : ℕ) → (advance m t first second).previous ≡ t
unfolding advance
next-tag m None first second = refl
next-tag m (Some t) first second = go (begins_section t)
  where
    go : (b : Bool) → (cond b (begin m t first) (extend m t first second)).previous ≡ Some t
    go true = refl
    go false = refl

-- an entry stands where one of its tag may
placed : (previous : Option Tag) (own : Tag) → begins_section own ≡ false → is_placed previous own ≡ true → entry_after previous ≡ Some own
placed previous own entry e = tag_same (entry_after previous) (Some own) (rw entry at e)

next-same : (m : Sizes) (r : Record) (rs : List Record) → is_placed m.previous r.tag ≡ true → Sound m → Same m (next m r) r rs
unfolding advance
next-same m r rs e sound = go (begins_section r.tag) refl
  where
    go : (b : Bool) → begins_section r.tag ≡ b → Same m (cond b (opening m r) (extending m r)) r rs
    go true low = begin-same m r rs low sound
    go false entry = extend_same m r rs entry (placed m.previous r.tag entry e)

-- what measuring comes to
abbrev Outcome : Sizes → List Record → Type 0
Outcome m rs =
    (Fit m rs × (finish (measure_records m rs) ≡ Ok (total m rs))) ⊎ ((Fit m rs → ⊥) × (finish (measure_records m rs) ≡ Err WontFit))

ended-outcome : (m : Sizes) → Sound m → Outcome m []
unfolding measure_records finish check flat_map sections all_countable entries_size leading
ended-outcome m sound = go (leb m.sections count_limit && not m.wide && leb size limit) refl
  where
    size : ℕ
    size = m.complete + aligned m.current

    same : total m [] ≡ size
    same = omega (arith, ap aligned (add-zero m.current))

    go : (b : Bool) → (leb m.sections count_limit && not m.wide && leb size limit) ≡ b → Outcome m []
    go true e =
        let (short, small) = (and-eq-true_iff (leb m.sections count_limit && not m.wide) (leb size limit)).0 e in
        let (few, wide) = (and-eq-true_iff (leb m.sections count_limit) (not m.wide)).0 short in
        let narrow = not-true m.wide wide in
        inl (
          record {
            few = omega (arith, leb-true m.sections count_limit few);
            narrow = narrow;
            entries = λ q. omega (arith, sound narrow q);
            all = refl;
            small = omega (arith, same, leb-true size limit small);
          },
          rw (e, same),
        )
    go false e =
        let not-fit : Fit m [] → ⊥ =
        λ f.
        let fits : (leb m.sections count_limit && not m.wide && leb size limit) ≡ true =
        rw (le-leb m.sections count_limit (omega (arith, f.few)), f.narrow, le-leb size limit (omega (arith, same, f.small))) in
        cc in
        inr (not-fit, rw e)

outcome : (rs : List Record) (m : Sizes) → in_order m.previous rs ≡ true → Sound m → Outcome m rs
unfolding in_order measure_records
outcome [] m e sound = ended-outcome m sound
outcome (r ∷ rs) m e sound =
    let (here, rest) = (and-eq-true_iff (is_placed m.previous r.tag) (in_order (Some r.tag) rs)).0 e in
    let same = next-same m r rs here sound in
    ⊎_elim
    (λ w. inl ((same.back w.0).0, w.1 ∙ ap Ok (same.back w.0).1))
    (λ w. inr ((λ f. w.0 (same.forth f)), w.1))
    (outcome rs (next m r) (rw next-tag rest) same.sound)

-- ---- from the main header on

main-header : (rs : List Record) → total nothing rs ≡ length (encode (sections rs))
main-header rs =
    let none : left nothing rs ≡ 0 = omega (arith, none-add rs) in
    omega (arith, ap aligned none, aligned-of-multiple 0 refl, length-encode (sections rs))

-- the sections fit exactly where the whole does
fit-sections : (rs : List Record) → Fit nothing rs → within_limits (sections rs) ≡ true
fit-sections rs f = limits-found (sections rs) (omega (arith, f.few)) f.all (omega (arith, f.small, main-header rs))

sections-fit : (rs : List Record) → within_limits (sections rs) ≡ true → Fit nothing rs
sections-fit rs e =
    let (few, all, small) = limits-good (sections rs) e in
    record {
      few = omega (arith, few);
      narrow = refl;
      entries = λ q. cc;
      all = all;
      small = omega (arith, main-header rs, small);
    }

pub measured-records :
    (rs : List Record) →
    in_order None rs ≡ true →
    finish (measure_records nothing rs) ≡ check (within_limits (sections rs)) WontFit (λ _. Ok (length (encode (sections rs))))
unfolding check
measured-records rs e =
    ⊎_elim
    (λ w. rw (w.1, fit-sections rs w.0) (ap Ok (main-header rs)))
    (λ w. rw (w.1, false_from_ne_true (within_limits (sections rs)) (λ f. w.0 (sections-fit rs f))))
    (outcome rs nothing e (λ _ q. cc))
