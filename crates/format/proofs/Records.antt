-- Records and sections say the same: the sections of the records of sections are these sections, and the records of the sections of records that stand in
-- order are these records.
-- Assumes nothing.
use Rattle.std.specs.Prelude.{Option, Some, None}
use Prim.Native.Nat.{ℕ}
use mathlib.Core.Bool.{true, false, true≢false, and-eq-true_iff}
use mathlib.Core.List.{List, [], ◌∷◌, ◌++◌, map, flat_map, append-nil}
use mathlib.Core.Path.{◌≡◌, refl, sym, ap, ap₂, ◌∙◌}
use native.Mathlib.Omega.{arith}
use Rattle.std.proofs.lemmas.List.{nil_from_length}
use Rattle.std.proofs.lemmas.Option.{none-some}
use lib.ListN.{length, get_or}
use Rattle.table.specs.Tags.{same_tag, entry_tag, entry_after, begins_section, opens_section}
use Rattle.table.specs.declared.tag.Tag.{Tag}
use Rattle.table.specs.declared.tag.Tag.TheVariants as tag
use Rattle.table.proofs.Tags.{tag_same, tag-discrete, entry-begins-none}
use Rattle.layout.proofs.Lists.{flat_map-append}
use Rattle.format.specs.Records.{Record, says, number_count, text_count, is_placed, in_order, content_record, name_record, pair_record, records_of, records, number, text, name_of, pair_of, leading, begun, sections}
use Rattle.format.specs.Sections.{Name, Pair, Section, plain, packed, names, arguments, unknown}
use Rattle.format.specs.WellFormed.{All}
use Rattle.format.proofs.RecordsByTag.{leading-more, leading-ends}

-- ---- a record by its place and tag

-- where a record may stand: it begins a section, or it is an entry of what stands before it, and after it others of its tag may stand
pub data Placed (previous : Option Tag) (own : Tag) : Type 0 where
  begins : begins_section own ≡ true → Placed previous own
  entry : begins_section own ≡ false → entry_after previous ≡ Some own → entry_tag own ≡ Some own → Placed previous own

pub placed : (previous : Option Tag) (own : Tag) → is_placed previous own ≡ true → Placed previous own
unfolding same_tag
placed previous tag.PlainContents h = begins refl
placed previous tag.PackedContents h = begins refl
placed previous tag.Names h = begins refl
placed previous tag.Arguments h = begins refl
placed previous tag.Unknown h = begins refl
placed previous tag.Content h = entry refl (tag_same (entry_after previous) (Some tag.Content) h) refl
placed previous tag.Name h = entry refl (tag_same (entry_after previous) (Some tag.Name) h) refl
placed previous tag.Pair h = entry refl (tag_same (entry_after previous) (Some tag.Pair) h) refl

-- a record that is no section's begins none
pub begins-none : (t : Tag) → begins_section t ≡ false → (r : Record) (rs : List Record) → begun t r rs ≡ []
unfolding begun
begins-none tag.PlainContents b r rs = cc
begins-none tag.PackedContents b r rs = cc
begins-none tag.Names b r rs = cc
begins-none tag.Arguments b r rs = cc
begins-none tag.Unknown b r rs = cc
begins-none tag.Content b r rs = refl
begins-none tag.Name b r rs = refl
begins-none tag.Pair b r rs = refl

-- ---- the sections of the records of sections

section-no-entry : (own : Tag) (t : Option Tag) → begins_section own ≡ true → opens_section t ≡ false → Some own ≡ t → ⊥
section-no-entry own t b e q = true≢false (sym b ∙ ap opens_section q ∙ e)

-- what the records of a section begin with
first-record : (s : Section) → (r : Record) × (rs : List Record) × (records_of s ≡ r ∷ rs) × (begins_section r.tag ≡ true)
unfolding records_of
first-record (plain header texts) = (_, _, refl, refl)
first-record (packed header stream count uncompressed) = (_, _, refl, refl)
first-record (names ns) = (_, _, refl, refl)
first-record (arguments ps) = (_, _, refl, refl)
first-record (unknown kind bytes) = (_, _, refl, refl)

-- so no entry stands there
leading-none : {A : Type 0} (t : Option Tag) (f : Record → A) → opens_section t ≡ false → (ss : List Section) → leading t f (records ss) ≡ []
unfolding records flat_map
leading-none t f e [] = unfold leading in refl
leading-none t f e (s ∷ ss) =
    let (r, rs, is, section) = first-record s in
    rw is (leading-ends t f r (rs ++ records ss) (section-no-entry r.tag t section e))

-- the records of some entries, before those of sections
module _
    {A : Type 0}
    (t : Tag)
    (own : A → Record)
    (f : Record → A)
    (tagged : (x : A) → (own x).tag ≡ t)
    (back : (x : A) → f (own x) ≡ x)
    (entry : begins_section t ≡ false)
    (ss : List Section)
  where
    leading-entries : (xs : List A) → leading (Some t) f (map own xs ++ records ss) ≡ xs
    leading-entries [] = leading-none (Some t) f entry ss
    leading-entries (x ∷ xs) =
        leading-more (Some t) f (own x) (map own xs ++ records ss) (ap Some (tagged x)) ∙ ap₂ (λ (a : A) (l : List A). a ∷ l) (back x) (leading-entries xs)

    sections-after : (xs : List A) → sections (map own xs ++ records ss) ≡ sections (records ss)
    unfolding sections
    sections-after [] = refl
    sections-after (x ∷ xs) =
        let rest : List Record = map own xs ++ records ss in
        let none : begun (own x).tag (own x) rest ≡ [] = begins-none (own x).tag (ap begins_section (tagged x) ∙ entry) (own x) rest in
        ap (λ (l : List Section). l ++ sections rest) none ∙ sections-after xs

pub sections-of-records : (ss : List Section) → sections (records ss) ≡ ss
unfolding records records_of sections begun flat_map
sections-of-records [] = refl
sections-of-records (plain header texts ∷ ss) =
    ap₂ (λ (l : List (List ℕ)) (m : List Section). plain header l ∷ m)
    (leading-entries tag.Content content_record (text 0) (λ x. refl) (λ x. refl) refl ss texts)
    (sections-after tag.Content content_record (text 0) (λ x. refl) (λ x. refl) refl ss texts ∙ sections-of-records ss)
sections-of-records (packed header stream count uncompressed ∷ ss) = ap (λ (m : List Section). packed header stream count uncompressed ∷ m) (sections-of-records ss)
sections-of-records (names ns ∷ ss) =
    ap₂ (λ (l : List Name) (m : List Section). names l ∷ m)
    (leading-entries tag.Name name_record name_of (λ x. refl) (λ x. refl) refl ss ns)
    (sections-after tag.Name name_record name_of (λ x. refl) (λ x. refl) refl ss ns ∙ sections-of-records ss)
sections-of-records (arguments ps ∷ ss) =
    ap₂ (λ (l : List Pair) (m : List Section). arguments l ∷ m)
    (leading-entries tag.Pair pair_record pair_of (λ x. refl) (λ x. refl) refl ss ps)
    (sections-after tag.Pair pair_record pair_of (λ x. refl) (λ x. refl) refl ss ps ∙ sections-of-records ss)
sections-of-records (unknown kind bytes ∷ ss) = ap (λ (m : List Section). unknown kind bytes ∷ m) (sections-of-records ss)

-- ---- the records of the sections of records

-- a record has the numbers and texts of its tag, as many as they are
pub record Shaped (r : Record) : Type 0 where
  pub numbers : length r.numbers ≡ number_count r.tag
  pub texts : length r.texts ≡ text_count r.tag

-- a list of a length, by its elements
one_of : {A : Type 0} (d : A) (l : List A) → length l ≡ 1 → l ≡ get_or l 0 d ∷ []
one_of d [] e = absurd (omega arith)
one_of d (x ∷ l) e = ap (λ (m : List _). x ∷ m) (nil_from_length l (omega arith))

two-of : {A : Type 0} (d : A) (l : List A) → length l ≡ 2 → l ≡ get_or l 0 d ∷ get_or l 1 d ∷ []
two-of d [] e = absurd (omega arith)
two-of d (x ∷ l) e = ap (λ (m : List _). x ∷ m) (one_of d l (omega arith))

three-of : {A : Type 0} (d : A) (l : List A) → length l ≡ 3 → l ≡ get_or l 0 d ∷ get_or l 1 d ∷ get_or l 2 d ∷ []
three-of d [] e = absurd (omega arith)
three-of d (x ∷ l) e = ap (λ (m : List _). x ∷ m) (two-of d l (omega arith))

rebuilt : (r : Record) (t : Tag) {ns : List ℕ} {ts : List (List ℕ)} → r.tag ≡ t → r.numbers ≡ ns → r.texts ≡ ts → says t ns ts ≡ r
rebuilt r t q n s = rw (← q, ← n, ← s)

-- the entries of a tag at the start of records, made records again
leading-back :
    {A : Type 0} (t : Tag) (f : Record → A) (own : A → Record) →
    ((r : Record) → Shaped r → r.tag ≡ t → own (f r) ≡ r) →
    (rs : List Record) → All Shaped rs → map own (leading (Some t) f rs) ≡ leading (Some t) (λ (r : Record). r) rs
leading-back t f own back [] ok = unfold leading in refl
leading-back t f own back (r ∷ rs) (ok, oks) =
    elim (tag-discrete (Some r.tag) (Some t)) [
      | yes q ↦
          rw (leading-more (Some t) f r rs q, leading-more (Some t) (λ (r : Record). r) r rs q)
          (ap₂ (λ (a : Record) (l : List Record). a ∷ l) (back r ok (cc)) (leading-back t f own back rs oks))
      | no n ↦ rw (leading-ends (Some t) f r rs n, leading-ends (Some t) (λ (r : Record). r) r rs n)
    ]

-- no records are of no tag
pub leading-no-tag : {A : Type 0} (f : Record → A) (rs : List Record) → leading None f rs ≡ []
leading-no-tag f [] = unfold leading in refl
leading-no-tag f (r ∷ rs) = leading-ends None f r rs (λ q. none-some r.tag (sym q))

-- each record from its numbers and texts
module _ (r : Record) (ok : Shaped r) where
  numbered : (t : Tag) → r.tag ≡ t → length r.numbers ≡ number_count t
  numbered t q = ok.numbers ∙ ap number_count q

  texted : (t : Tag) → r.tag ≡ t → length r.texts ≡ text_count t
  texted t q = ok.texts ∙ ap text_count q

  plain_back : r.tag ≡ tag.PlainContents → says tag.PlainContents (number 0 r ∷ []) [] ≡ r
  plain_back q = rebuilt r _ q (one_of 0 r.numbers (numbered _ q)) (nil_from_length r.texts (texted _ q))

  packed-back : r.tag ≡ tag.PackedContents → says tag.PackedContents (number 0 r ∷ number 1 r ∷ number 2 r ∷ []) (text 0 r ∷ []) ≡ r
  packed-back q = rebuilt r _ q (three-of 0 r.numbers (numbered _ q)) (one_of [] r.texts (texted _ q))

  names-back : r.tag ≡ tag.Names → says tag.Names [] [] ≡ r
  names-back q = rebuilt r _ q (nil_from_length r.numbers (numbered _ q)) (nil_from_length r.texts (texted _ q))

  arguments-back : r.tag ≡ tag.Arguments → says tag.Arguments [] [] ≡ r
  arguments-back q = rebuilt r _ q (nil_from_length r.numbers (numbered _ q)) (nil_from_length r.texts (texted _ q))

  unknown-back : r.tag ≡ tag.Unknown → says tag.Unknown (number 0 r ∷ []) (text 0 r ∷ []) ≡ r
  unknown-back q = rebuilt r _ q (one_of 0 r.numbers (numbered _ q)) (one_of [] r.texts (texted _ q))

  content-back : r.tag ≡ tag.Content → content_record (text 0 r) ≡ r
  content-back q = rebuilt r _ q (nil_from_length r.numbers (numbered _ q)) (one_of [] r.texts (texted _ q))

  name_back : r.tag ≡ tag.Name → name_record (name_of r) ≡ r
  name_back q = rebuilt r _ q (one_of 0 r.numbers (numbered _ q)) (one_of [] r.texts (texted _ q))

  pair-back : r.tag ≡ tag.Pair → pair_record (pair_of r) ≡ r
  pair-back q = rebuilt r _ q (nil_from_length r.numbers (numbered _ q)) (two-of [] r.texts (texted _ q))

-- a section's own record and its entries' are those that it was made from
begun-back :
    (t : Tag) (r : Record) (rs : List Record) →
    r.tag ≡ t →
    begins_section t ≡ true →
    Shaped r →
    All Shaped rs →
    records (begun t r rs) ≡ r ∷ leading (entry_tag t) (λ (r : Record). r) rs
unfolding begun records records_of flat_map
begun-back tag.PlainContents r rs q b ok oks =
    ap₂ (λ (a : Record) (l : List Record). a ∷ l) (plain_back r ok q) (append-nil _ ∙ leading-back tag.Content (text 0) content_record content-back rs oks)
begun-back tag.PackedContents r rs q b ok oks =
    ap₂ (λ (a : Record) (l : List Record). a ∷ l) (packed-back r ok q) (sym (leading-no-tag (λ (r : Record). r) rs))
begun-back tag.Names r rs q b ok oks =
    ap₂ (λ (a : Record) (l : List Record). a ∷ l) (names-back r ok q) (append-nil _ ∙ leading-back tag.Name name_of name_record name_back rs oks)
begun-back tag.Arguments r rs q b ok oks =
    ap₂ (λ (a : Record) (l : List Record). a ∷ l) (arguments-back r ok q) (append-nil _ ∙ leading-back tag.Pair pair_of pair_record pair-back rs oks)
begun-back tag.Unknown r rs q b ok oks =
    ap₂ (λ (a : Record) (l : List Record). a ∷ l) (unknown-back r ok q) (sym (leading-no-tag (λ (r : Record). r) rs))
begun-back tag.Content r rs q b ok oks = absurd cc
begun-back tag.Name r rs q b ok oks = absurd cc
begun-back tag.Pair r rs q b ok oks = absurd cc

-- the entries that continue what stands before the records, and then the records of the sections
continued : (previous : Option Tag) (rs : List Record) → in_order previous rs ≡ true → All Shaped rs → leading (entry_after previous) (λ (r : Record). r) rs ++ records (sections rs) ≡ rs
unfolding in_order sections records flat_map
continued previous [] h oks = unfold leading in refl
continued previous (r ∷ rs) h (ok, oks) =
    let (here, rest) = (and-eq-true_iff (is_placed previous r.tag) (in_order (Some r.tag) rs)).0 h in
    go (placed previous r.tag here) (continued (Some r.tag) rs rest oks)
  where
    go :
        Placed previous r.tag →
        leading (entry_tag r.tag) (λ (r : Record). r) rs ++ records (sections rs) ≡ rs →
        leading (entry_after previous) (λ (r : Record). r) (r ∷ rs) ++ records (begun r.tag r rs ++ sections rs) ≡ r ∷ rs
    go (begins b) more =
        let none = leading-ends (entry_after previous) (λ (r : Record). r) r rs (section-no-entry r.tag (entry_after previous) b (entry-begins-none previous)) in
        let own = begun-back r.tag r rs refl b ok oks in
        rw (none, flat_map-append records_of (begun r.tag r rs) (sections rs), own) (ap (λ (l : List Record). r ∷ l) more)
    go (entry b e fixed) more =
        let this = leading-more (entry_after previous) (λ (r : Record). r) r rs (sym e) in
        let none = begins-none r.tag b r rs in
        rw (this, none) (ap (λ (l : List Record). r ∷ l) (rw (fixed, ← e) at more))

pub records-of-sections : (rs : List Record) → in_order None rs ≡ true → All Shaped rs → records (sections rs) ≡ rs
records-of-sections rs h oks =
    ap (λ (l : List Record). l ++ records (sections rs)) (sym (leading-no-tag (λ (r : Record). r) rs)) ∙ continued None rs h oks
