-- What is asked of sections, record by record: sections are well formed just where their records are.
-- Assumes nothing.
use Rattle.std.specs.Prelude.{Option, Some}
use Prim.Native.Nat.{ℕ, ◌%◌, ◌^◌, ◌≤◌, ◌<◌}
use mathlib.Core.Bool.{Bool, true, false}
use mathlib.Core.List.{List, [], ◌∷◌, ◌++◌, map, flat_map}
use mathlib.Core.Path.{◌≡◌, refl, subst}
use native.Mathlib.Omega.{arith}
use lib.ListN.{length}
use Rattle.table.specs.Tags.{same_tag, begins_section}
use Rattle.table.specs.declared.tag.Tag.{Tag}
use Rattle.table.specs.declared.tag.Tag.TheVariants as tag
use Rattle.table.proofs.Tags.{tag-discrete}
use Rattle.format.specs.Records.{Record, number_count, text_count, is_placed, in_order, content_record, name_record, pair_record, records_of, records, number, text, name_of, pair_of, leading, begun, sections}
use Rattle.format.specs.Sections.{Section, plain, packed, names, arguments, unknown}
use Rattle.format.specs.WellFormed.{Bytes, All, Text, NameOk, PairOk, WellFormed}
use Rattle.format.proofs.Records.{Shaped}
use Rattle.format.proofs.RecordsByTag.{leading-more, leading-ends}
use Rattle.format.proofs.RowsByTag.{all_append, all-at}
use Rattle.format.proofs.TextsOk.{empty-text}

-- what is asked of what a record holds: bytes of a section, and texts of an entry
abbrev pub TextOk : Bool → List ℕ → Type 0
TextOk true s = Bytes s
TextOk false s = Text s

-- and of an unknown section
abbrev pub KindOk : Tag → Record → Type 0
KindOk tag.PlainContents r = Unit {0}
KindOk tag.PackedContents r = Unit {0}
KindOk tag.Names r = Unit {0}
KindOk tag.Arguments r = Unit {0}
KindOk tag.Unknown r = (3 ≤ number 0 r) × (number 0 r ≤ 65535) × (length (text 0 r) % 4 ≡ 0)
KindOk tag.Content r = Unit {0}
KindOk tag.Name r = Unit {0}
KindOk tag.Pair r = Unit {0}

-- of a record whose tag is t
pub record RecordOk (t : Tag) (r : Record) : Type 0 where
  pub numbers : All (λ (n : ℕ). n < 2 ^ 32) r.numbers
  pub texts : All (TextOk (begins_section t)) r.texts
  pub kind : KindOk t r

abbrev pub Good : Record → Type 0
Good r = RecordOk r.tag r

-- ---- from records to sections

number_ok : (k : ℕ) {t : Tag} (r : Record) → RecordOk t r → number k r < 2 ^ 32
number_ok k r ok = all-at (λ (n : ℕ). n < 2 ^ 32) 0 r.numbers ok.numbers (omega arith) k

bytes_ok : (k : ℕ) {t : Tag} (r : Record) → RecordOk t r → begins_section t ≡ true → Bytes (text k r)
bytes_ok k r ok e = all-at Bytes [] r.texts (rw e at ok.texts) (λ k. omega arith) k

text-ok : (k : ℕ) {t : Tag} (r : Record) → RecordOk t r → begins_section t ≡ false → Text (text k r)
text-ok k r ok e = all-at Text [] r.texts (rw e at ok.texts) empty-text k

leading-ok :
    {A : Type 0} (P : A → Type 0) (t : Tag) (f : Record → A) →
    ((r : Record) → RecordOk t r → P (f r)) →
    (rs : List Record) → All Good rs → All P (leading (Some t) f rs)
leading-ok P t f each [] oks = unfold leading in tt
leading-ok P t f each (r ∷ rs) (ok, oks) =
    elim (tag-discrete (Some r.tag) (Some t)) [
      | yes q ↦ rw (leading-more (Some t) f r rs q) (each r (subst (λ (t : Tag). RecordOk t r) (cc) ok), leading-ok P t f each rs oks)
      | no n ↦ rw (leading-ends (Some t) f r rs n) tt
    ]

begun_ok : (t : Tag) (r : Record) (rs : List Record) → RecordOk t r → All Good rs → All WellFormed (begun t r rs)
unfolding begun
begun_ok tag.PlainContents r rs ok oks = ((number_ok 0 r ok, leading-ok Text tag.Content (text 0) (λ r k. text-ok 0 r k refl) rs oks), tt)
begun_ok tag.PackedContents r rs ok oks = ((number_ok 0 r ok, bytes_ok 0 r ok refl, number_ok 1 r ok, number_ok 2 r ok), tt)
begun_ok tag.Names r rs ok oks =
    (leading-ok NameOk tag.Name name_of (λ r k. record { text = text-ok 0 r k refl; size = number_ok 0 r k }) rs oks, tt)
begun_ok tag.Arguments r rs ok oks =
    (leading-ok PairOk tag.Pair pair_of (λ r k. record { name = text-ok 0 r k refl; value = text-ok 1 r k refl }) rs oks, tt)
begun_ok tag.Unknown r rs ok oks = let (low, high, whole) = ok.kind in ((low, high, bytes_ok 0 r ok refl, whole), tt)
begun_ok tag.Content r rs ok oks = tt
begun_ok tag.Name r rs ok oks = tt
begun_ok tag.Pair r rs ok oks = tt

pub sections-ok : (rs : List Record) → All Good rs → All WellFormed (sections rs)
unfolding sections
sections-ok [] oks = tt
sections-ok (r ∷ rs) (ok, oks) = all_append WellFormed (begun r.tag r rs) (sections rs) (begun_ok r.tag r rs ok oks) (sections-ok rs oks)

-- ---- from sections to records

abbrev pub Whole : Record → Type 0
Whole r = Shaped r × Good r

entries-ok :
    {A : Type 0} (P : A → Type 0) (own : A → Record) →
    ((x : A) → P x → Whole (own x)) →
    (xs : List A) → All P xs → All Whole (map own xs)
entries-ok P own each [] oks = tt
entries-ok P own each (x ∷ xs) (ok, oks) = (each x ok, entries-ok P own each xs oks)

abbrev shape : {r : Record} → length r.numbers ≡ number_count r.tag → length r.texts ≡ text_count r.tag → Shaped r
shape n t = record { numbers = n; texts = t }

abbrev fine : {r : Record} → All (λ (n : ℕ). n < 2 ^ 32) r.numbers → All (TextOk (begins_section r.tag)) r.texts → KindOk r.tag r → Good r
fine n t k = record { numbers = n; texts = t; kind = k }

record-ok : (s : Section) → WellFormed s → All Whole (records_of s)
unfolding records_of
record-ok (plain header texts) (field, oks) =
    ((shape refl refl, fine (field, tt) tt tt), entries-ok Text content_record (λ x k. (shape refl refl, fine tt (k, tt) tt)) texts oks)
record-ok (packed header stream count uncompressed) (field, bytes, many, size) = ((shape refl refl, fine (field, (many, (size, tt))) (bytes, tt) tt), tt)
record-ok (names ns) oks =
    ((shape refl refl, fine tt tt tt), entries-ok NameOk name_record (λ x k. (shape refl refl, fine (k.size, tt) (k.text, tt) tt)) ns oks)
record-ok (arguments ps) oks =
    ((shape refl refl, fine tt tt tt), entries-ok PairOk pair_record (λ x k. (shape refl refl, fine tt (k.name, (k.value, tt)) tt)) ps oks)
record-ok (unknown kind bytes) (low, high, all, whole) = ((shape refl refl, fine (omega arith, tt) (all, tt) (low, high, whole)), tt)

pub records-ok : (ss : List Section) → All WellFormed ss → All Whole (records ss)
unfolding records flat_map
records-ok [] oks = tt
records-ok (s ∷ ss) (ok, oks) = all_append Whole (records_of s) (records ss) (record-ok s ok) (records-ok ss oks)

-- ---- the records of sections stand in order

entries-order :
    {A : Type 0} (t : Tag) (own : A → Record) →
    ((x : A) → (own x).tag ≡ t) →
    is_placed (Some t) t ≡ true →
    (rs : List Record) →
    ((previous : Option Tag) → in_order previous rs ≡ true) →
    (xs : List A) (previous : Option Tag) →
    is_placed previous t ≡ true →
    in_order previous (map own xs ++ rs) ≡ true
unfolding in_order
entries-order t own tagged again rs after [] previous may = after previous
entries-order t own tagged again rs after (x ∷ xs) previous may = rw (tagged x, may) (entries-order t own tagged again rs after xs (Some t) again)

section-order : (s : Section) (rs : List Record) → ((previous : Option Tag) → in_order previous rs ≡ true) → (previous : Option Tag) → in_order previous (records_of s ++ rs) ≡ true
unfolding records_of in_order same_tag
section-order (plain header texts) rs after previous = entries-order tag.Content content_record (λ x. refl) refl rs after texts (Some tag.PlainContents) refl
section-order (packed header stream count uncompressed) rs after previous = after (Some tag.PackedContents)
section-order (names ns) rs after previous = entries-order tag.Name name_record (λ x. refl) refl rs after ns (Some tag.Names) refl
section-order (arguments ps) rs after previous = entries-order tag.Pair pair_record (λ x. refl) refl rs after ps (Some tag.Arguments) refl
section-order (unknown kind bytes) rs after previous = after (Some tag.Unknown)

pub records-order : (ss : List Section) (previous : Option Tag) → in_order previous (records ss) ≡ true
unfolding records flat_map
records-order [] previous = unfold in_order in refl
records-order (s ∷ ss) previous = section-order s (records ss) (records-order ss) previous
