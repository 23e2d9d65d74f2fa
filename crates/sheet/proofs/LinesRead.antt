-- Lines: the line of a record is read as the record, and a line that is read as a record is its line.
-- Assumes nothing.
use Rattle.std.specs.Prelude.{Option, Some, None, Ok}
use Prim.Native.Nat.{ℕ, ◌+◌, ◌-◌, ◌%◌, min}
use mathlib.Core.Bool.{Bool, true, false, cond, ◌&&◌, and-eq-true_iff}
use mathlib.Core.List.{List, [], ◌∷◌, ◌++◌, map, flat_map}
use mathlib.Core.Path.{◌≡◌, refl, sym, ap, ap₂, ◌∙◌}
use native.Mathlib.Omega.{arith}
use borrow.Author.Tests.{leb-true, le-leb, eqb-true, eq-eqb}
use lib.Dec.{leb, eqb}
use lib.ListN.{length, take, drop, length-append, length-map, take-append-drop, length-take, length-drop}
use lib.Seq.{take_at, drop_at}
use Rattle.layout.specs.declared.refusal.Refusal.{Refusal}
use Rattle.layout.proofs.Checked.{check-good, check-passes, then-good, then-passes}
use Rattle.table.specs.Tags.{same_tag, begins_section}
use Rattle.table.specs.declared.tag.Tag.{Tag}
use Rattle.table.specs.declared.tag.Tag.TheVariants as tag
use Rattle.format.specs.Display.{decimal}
use Rattle.format.specs.Records.{Record, number_count, text_count, is_placed, number, text}
use Rattle.format.specs.WellFormed.{Bytes, All}
use Rattle.format.proofs.Records.{Shaped}
use Rattle.format.proofs.RecordsOk.{TextOk, KindOk, Whole}
use Rattle.format.proofs.RowsByTag.{all_append}
use Rattle.format.proofs.TextsOk.{whole-ok, ok-whole}
use Rattle.sheet.specs.Fields.{tab, newline, all, is_number, number_of, hex_pairs, is_hex_pairs, bytes_of_pairs, escape, is_escaped, unescape}
use Rattle.sheet.specs.Lines.{word, shown, fields, parted, Parts, parts, split, tag_of_word, is_shown, said, said_by, is_made, is_ruled, check_all, texts_of, read_fields, read_line}
use Rattle.sheet.proofs.Codec.{Within, Codec, all-within, all_one, all_back, all-good, all-again}
use Rattle.sheet.proofs.Escapes.{text-codec}
use Rattle.sheet.proofs.HexPairs.{bytes-codec}
use Rattle.sheet.proofs.Numbers.{number-codec}
use Rattle.sheet.proofs.Splitting.{Free, split-joined, split-free, joined-split}
use Rattle.sheet.proofs.Words.{word_read, word-within, word-again}

-- a line without its newline
abbrev pub body : Record → List ℕ
body r = word r.tag ++ parted (fields r)

-- what a section's record holds is bytes, and what an entry's holds is any list
abbrev Held : Bool → List ℕ → Type 0
Held true s = Bytes s
Held false s = Unit {0}

held-codec : (b : Bool) → Codec (Held b) (λ (s : List ℕ). cond b (hex_pairs s) (escape s)) (λ (f : List ℕ). cond b (is_hex_pairs f) (is_escaped f)) (λ (f : List ℕ). cond b (bytes_of_pairs f) (unescape f))
held-codec true = bytes-codec
held-codec false = text-codec

-- ---- from a record to its line

all_held : (b : Bool) (ts : List (List ℕ)) → All (TextOk b) ts → All (Held b) ts
all_held b [] h = tt
all_held true (t ∷ ts) (h, hs) = (h, all_held true ts hs)
all_held false (t ∷ ts) (h, hs) = (tt, all_held false ts hs)

checked : (b : Bool) (ts : List (List ℕ)) → All (TextOk b) ts → check_all (cond b [] ts) ≡ Ok tt
unfolding check_all
checked true ts h = refl
checked false [] h = refl
checked false (t ∷ ts) (h, hs) = then-passes _ _ (ok-whole t h) (checked false ts hs)

ruled : (r : Record) (t : Tag) → r.tag ≡ t → KindOk t r → is_ruled r ≡ true
unfolding same_tag
ruled r tag.PlainContents q k = rw q
ruled r tag.PackedContents q k = rw q
ruled r tag.Names q k = rw q
ruled r tag.Arguments q k = rw q
ruled r tag.Unknown q (low, high, whole) = rw (q, le-leb 3 (number 0 r) low, le-leb (number 0 r) 65535 high, eq-eqb (length (text 0 r) % 4) 0 whole)
ruled r tag.Content q k = rw q
ruled r tag.Name q k = rw q
ruled r tag.Pair q k = rw q

module _ (r : Record) (whole : Whole r) where
  abbrev own : Tag
  own = r.tag

  abbrev ns : List ℕ
  ns = r.numbers

  abbrev ts : List (List ℕ)
  ts = r.texts

  counted : length (map decimal ns) ≡ number_count own
  counted = length-map ns decimal ∙ whole.0.numbers

  taken : take (number_count own) (fields r) ≡ map decimal ns
  taken = take_at (map decimal ns) (map (shown own) ts) (number_count own) counted

  left : drop (number_count own) (fields r) ≡ map (shown own) ts
  left = drop_at (map decimal ns) (map (shown own) ts) (number_count own) counted

  held : All (Held (begins_section own)) ts
  held = all_held (begins_section own) ts whole.1.texts

  said-back : said_by own (fields r) ≡ r
  said-back = rw (taken, left, all_back number-codec ns whole.1.numbers, all_back (held-codec (begins_section own)) ts held)

  made : is_made own (fields r) ≡ true
  unfolding is_made
  made =
      let many : length (fields r) ≡ number_count own + text_count own = length-append (map decimal ns) (map (shown own) ts) ∙ ap₂ ◌+◌ counted (length-map ts (shown own) ∙ whole.0.texts) in
      rw (eq-eqb (length (fields r)) (number_count own + text_count own) many, taken, left, all_one number-codec ns whole.1.numbers, all_one (held-codec (begins_section own)) ts held)

  fields_within : All Within (fields r)
  fields_within = all_append Within (map decimal ns) (map (shown own) ts) (all-within number-codec ns whole.1.numbers) (all-within (held-codec (begins_section own)) ts held)

  parts-back : split tab (body r) ≡ parts (word own) (fields r)
  parts-back = joined-split tab (word own) (fields r) (word-within own).0 (all-free (fields r) fields_within)
    where
      all-free : (fs : List (List ℕ)) → All Within fs → All (Free tab) fs
      all-free [] h = tt
      all-free (f ∷ fs) (h, hs) = (h.0, all-free fs hs)

  pub body-within : Free newline (body r)
  unfolding flat_map
  body-within = all_append _ (word own) (parted (fields r)) (word-within own).1 (parted-free (fields r) fields_within)
    where
      parted-free : (fs : List (List ℕ)) → All Within fs → Free newline (parted fs)
      parted-free [] h = tt
      parted-free (f ∷ fs) (h, hs) = (refl, all_append _ f (parted fs) h.1 (parted-free fs hs))

  pub line_read : (refusal : Refusal) (previous : Option Tag) → is_placed previous own ≡ true → read_line refusal previous (body r) ≡ Ok r
  unfolding read_line read_fields
  line_read refusal previous placed =
      let is : is_ruled (said_by own (fields r)) ≡ true = ap is_ruled said-back ∙ ruled r own refl whole.1.kind in
      let plain : check_all (texts_of (said_by own (fields r))) ≡ Ok tt = ap (λ (r : Record). check_all (texts_of r)) said-back ∙ checked (begins_section own) ts whole.1.texts in
      rw (parts-back, word_read own) (check-passes _ _ _ (rw (made, placed) is) (then-passes _ _ plain (ap Ok said-back)))

-- ---- from a line to its record

pub kind_ok : (r : Record) (t : Tag) → r.tag ≡ t → is_ruled r ≡ true → KindOk t r
unfolding same_tag
kind_ok r tag.PlainContents q e = tt
kind_ok r tag.PackedContents q e = tt
kind_ok r tag.Names q e = tt
kind_ok r tag.Arguments q e = tt
kind_ok r tag.Unknown q e =
    let (both, whole) = (and-eq-true_iff (leb 3 (number 0 r) && leb (number 0 r) 65535) (eqb (length (text 0 r) % 4) 0)).0 (rw q at e) in
    let (low, high) = (and-eq-true_iff (leb 3 (number 0 r)) (leb (number 0 r) 65535)).0 both in
    (leb-true 3 (number 0 r) low, leb-true (number 0 r) 65535 high, eqb-true (length (text 0 r) % 4) 0 whole)
kind_ok r tag.Content q e = tt
kind_ok r tag.Name q e = tt
kind_ok r tag.Pair q e = tt

texts-ok : (b : Bool) (ts : List (List ℕ)) → All (Held b) ts → check_all (cond b [] ts) ≡ Ok tt → All (TextOk b) ts
unfolding check_all
texts-ok b [] h e = tt
texts-ok true (t ∷ ts) (h, hs) e = (h, texts-ok true ts hs e)
texts-ok false (t ∷ ts) (h, hs) e =
    let (done, this, rest) = then-good _ _ _ e in
    (whole-ok t this, texts-ok false ts hs rest)

all-parts : {A : Type 0} (P : A → Type 0) (a b : List A) → All P (a ++ b) → All P a × All P b
all-parts P [] b h = (tt, h)
all-parts P (x ∷ a) b (h, hs) = let (k, l) = all-parts P a b hs in ((h, k), l)

-- the fields of a line have no newline where the line has none
fields_free : (fs : List (List ℕ)) → Free newline (parted fs) → All (Free tab) fs → All Within fs
unfolding flat_map
fields_free [] h k = tt
fields_free (f ∷ fs) (tabs, h) (k, ks) =
    let (this, rest) = all-parts _ f (parted fs) h in
    ((k, this), fields_free fs rest ks)

-- a line of a tag that has just its fields: how many they are, and that each is one
module _ (t : Tag) (fs : List (List ℕ)) (made : is_made t fs ≡ true) where
  pub record Fields : Type 0 where
    pub many : length fs ≡ number_count t + text_count t
    pub numbers : all is_number (take (number_count t) fs) ≡ true
    pub texts : all (is_shown t) (drop (number_count t) fs) ≡ true

  pub each-field : Fields
  unfolding is_made
  each-field =
      let (two, third) = (and-eq-true_iff (eqb (length fs) (number_count t + text_count t) && all is_number (take (number_count t) fs)) (all (is_shown t) (drop (number_count t) fs))).0 made in
      let (first, second) = (and-eq-true_iff (eqb (length fs) (number_count t + text_count t)) (all is_number (take (number_count t) fs))).0 two in
      record { many = eqb-true (length fs) (number_count t + text_count t) first; numbers = second; texts = third }

module _ (refusal : Refusal) (previous : Option Tag) (bytes : List ℕ) (r : Record) (e : read_line refusal previous bytes ≡ Ok r) where
  abbrev p : Parts
  p = split tab bytes

  abbrev t : Tag
  t = r.tag

  abbrev fs : List (List ℕ)
  fs = p.rest

  -- what was tested
  pub record Tested : Type 0 where
    pub named : tag_of_word p.first ≡ Some t
    pub is : r ≡ said_by t fs
    pub made : is_made t fs ≡ true
    pub placed : is_placed previous t ≡ true
    pub ruled : is_ruled r ≡ true
    pub texts : check_all (texts_of r) ≡ Ok tt

  pub tested : Tested
  unfolding read_line read_fields
  tested = go (tag_of_word p.first) refl e
    where
      go : (o : Option Tag) → tag_of_word p.first ≡ o → read_fields refusal previous o fs ≡ Ok r → Tested
      go None q e = absurd cc
      go (Some u) q e =
          let (tests, rest) = check-good _ _ _ _ e in
          let (done, plain, same) = then-good _ _ _ rest in
          let (two, third) = (and-eq-true_iff (is_made u fs && is_placed previous u) (is_ruled (said_by u fs))).0 tests in
          let (first, second) = (and-eq-true_iff (is_made u fs) (is_placed previous u)).0 two in
          let is : r ≡ said_by u fs = cc in
          let own : u ≡ t = sym (ap (λ (r : Record). r.tag) is) in
          record {
            named = q ∙ ap Some own;
            is = is ∙ ap (λ (u : Tag). said_by u fs) own;
            made = rw own at first;
            placed = rw own at second;
            ruled = ap is_ruled is ∙ third;
            texts = ap (λ (r : Record). check_all (texts_of r)) is ∙ plain;
          }

  pub read_whole : Whole r
  read_whole =
      let is = tested.is in
      let f = each-field t fs tested.made in
      let shape : Shaped (said_by t fs) =
      record {
        numbers = length-map (take (number_count t) fs) number_of ∙ length-take (number_count t) fs ∙ (let e : min (number_count t) (length fs) ≡ number_count t = omega arith in e);
        texts = length-map (drop (number_count t) fs) (said t) ∙ length-drop (number_count t) fs ∙ (let e : length fs - number_count t ≡ text_count t = omega arith in e);
      } in
      let numbers = all-good number-codec (take (number_count t) fs) f.numbers in
      let held = all-good (held-codec (begins_section t)) (drop (number_count t) fs) f.texts in
      let texts = texts-ok (begins_section t) (said_by t fs).texts held (rw is at tested.texts) in
      let kind = kind_ok (said_by t fs) t refl (rw is at tested.ruled) in
      rw is (shape, record { numbers = numbers; texts = texts; kind = kind })

  pub read_again : Free newline bytes → body r ≡ bytes
  read_again free =
      let joined : p.first ++ parted fs ≡ bytes = split-joined tab bytes in
      let whole : Free newline (p.first ++ parted fs) = rw joined free in
      let (head, rest) = all-parts _ p.first (parted fs) whole in
      let within = fields_free fs rest (split-free tab bytes).1 in
      let (first, second) = all-parts Within (take (number_count t) fs) (drop (number_count t) fs) (rw take-append-drop within) in
      let f = each-field t fs tested.made in
      let named : word t ≡ p.first = word-again p.first t tested.named in
      let same : fields (said_by t fs) ≡ fs =
      ap₂ (λ (a b : List (List ℕ)). a ++ b)
      (all-again number-codec (take (number_count t) fs) first f.numbers)
      (all-again (held-codec (begins_section t)) (drop (number_count t) fs) second f.texts) ∙
      take-append-drop (number_count t) fs in
      ap body tested.is ∙ ap₂ (λ (w : List ℕ) (l : List (List ℕ)). w ++ parted l) named same ∙ joined
