-- A sheet is at most three and a half times as long as its payload: so is the line of each record, beside what the record takes in the payload.
-- Assumes nothing.
use Prim.Native.Nat.{ℕ, ◌+◌, ◌*◌, ◌^◌, ◌≤◌, ◌<◌}
use mathlib.Core.List.{List, [], ◌∷◌, map, flat_map}
use mathlib.Core.Path.{◌≡◌, refl, ap}
use native.Mathlib.Omega.{arith}
use mathlib.Core.Bool.{Bool, true, false, cond}
use lib.Dec.{eqb}
use lib.ListN.{length, length-append}
use Rattle.wire.specs.Length.{wire_size}
use Rattle.wire.proofs.PaddingLaws.{le-aligned}
use Rattle.layout.proofs.Lists.{flat_map-append}
use Rattle.table.specs.Tags.{begins_section}
use Rattle.table.specs.declared.tag.Tag.{Tag}
use Rattle.table.specs.declared.tag.Tag.TheVariants as tag
use Rattle.format.specs.Display.{ascii, decimal}
use Rattle.format.specs.Encoding.{content_entry, name_entry, pair_entry, stored_bytes, encode_section}
use Rattle.format.specs.Records.{Record, content_record, name_record, pair_record, records_of, records}
use Rattle.format.specs.Sections.{Name, Pair, Section, plain, packed, names, arguments, unknown}
use Rattle.format.specs.WellFormed.{All, Text, NameOk, PairOk, WellFormed}
use Rattle.format.proofs.DecimalLaws.{decimal-short}
use Rattle.format.proofs.Encoding.{length-content_entry, length-name_entry, length-pair_entry, length-encode}
use Rattle.format.proofs.SectionBytes.{filled, length-section}
use Rattle.sheet.specs.Fields.{tab, newline, backslash, hex_pairs, escaped, escape}
use Rattle.sheet.specs.Lines.{shown, line}
use Rattle.sheet.specs.Promises.{SheetSize}
use Rattle.sheet.specs.ToSheet.{sheet}
use Rattle.sheet.proofs.Promises.{made-sheeted}

-- ---- fields

number_short : (n : ℕ) → n < 2 ^ 32 → length (decimal n) ≤ 10
number_short n h = decimal-short 9 n (omega arith)

pub length-hex_pairs : (bytes : List ℕ) → length (hex_pairs bytes) ≡ 2 * length bytes
unfolding hex_pairs flat_map
length-hex_pairs [] = refl
length-hex_pairs (b ∷ bytes) = omega (arith, length-hex_pairs bytes)

pub length-escape : (text : List ℕ) → length (escape text) ≤ 2 * length text
unfolding escape flat_map
length-escape [] = omega arith
length-escape (b ∷ text) = rw length-append (omega (arith, short b, length-escape text))
  where
    short : (b : ℕ) → length (escaped b) ≤ 2
    short b = go (eqb b backslash) (eqb b tab) (eqb b newline)
      where
        go : (x y z : Bool) → length (cond x (backslash ∷ 92 ∷ []) (cond y (backslash ∷ 116 ∷ []) (cond z (backslash ∷ 110 ∷ []) (b ∷ [])))) ≤ 2
        go true y z = omega arith
        go false true z = omega arith
        go false false true = omega arith
        go false false false = omega arith

-- ---- lines

-- what an entry's line has for a text
text-field : (t : Tag) → begins_section t ≡ false → (text : List ℕ) → length (shown t text) ≤ 2 * length text
text-field t e text = rw e (length-escape text)

bytes-field : (t : Tag) → begins_section t ≡ true → (bytes : List ℕ) → length (shown t bytes) ≡ 2 * length bytes
bytes-field t e bytes = rw e (length-hex_pairs bytes)

content-line : (text : List ℕ) → Text text → 2 * length (line (content_record text)) ≤ 7 * length (content_entry text)
unfolding line ascii flat_map
content-line text ok =
    simp length-append (omega (arith, text-field tag.Content refl text, length-content_entry text, le-aligned (12 + wire_size (length text))))

name-line : (n : Name) → NameOk n → 2 * length (line (name_record n)) ≤ 7 * length (name_entry n)
unfolding line ascii flat_map
name-line n ok =
    simp length-append
    (omega (arith, number_short n.content_size ok.size, text-field tag.Name refl n.text, length-name_entry n, le-aligned (16 + wire_size (length n.text))))

pair_line_lem : (p : Pair) → PairOk p → 2 * length (line (pair_record p)) ≤ 7 * length (pair_entry p)
unfolding line ascii flat_map
pair_line_lem p ok = simp length-append (omega (arith, text-field tag.Pair refl p.name, text-field tag.Pair refl p.value, length-pair_entry p))

entries-size :
    {A : Type 0} (P : A → Type 0) (own : A → Record) (entry : A → List ℕ) →
    ((x : A) → P x → 2 * length (line (own x)) ≤ 7 * length (entry x)) →
    (xs : List A) → All P xs → 2 * length (flat_map line (map own xs)) ≤ 7 * length (flat_map entry xs)
unfolding flat_map
entries-size P own entry each [] oks = omega arith
entries-size P own entry each (x ∷ xs) (ok, oks) = simp length-append (omega (arith, each x ok, entries-size P own entry each xs oks))

section-size : (s : Section) → WellFormed s → 2 * length (flat_map line (records_of s)) ≤ 7 * length (encode_section s)
unfolding records_of line ascii flat_map stored_bytes
section-size (plain header texts) (field, oks) =
    let rest = entries-size Text content_record content_entry content-line texts oks in
    simp length-append (omega (arith, number_short header field, length-section (plain header texts), le-aligned (filled (plain header texts))))
section-size (packed header stream count uncompressed) (field, bytes, many, size) =
    simp length-append
    (omega (arith, number_short header field, number_short count many, number_short uncompressed size, bytes-field tag.PackedContents refl stream, length-section (packed header stream count uncompressed), le-aligned (filled (packed header stream count uncompressed))))
section-size (names ns) oks =
    let rest = entries-size NameOk name_record name_entry name-line ns oks in
    simp length-append (omega (arith, length-section (names ns), le-aligned (filled (names ns))))
section-size (arguments ps) oks =
    let rest = entries-size PairOk pair_record pair_entry pair_line_lem ps oks in
    simp length-append (omega (arith, length-section (arguments ps), le-aligned (filled (arguments ps))))
section-size (unknown kind bytes) (low, high, all, whole) =
    simp length-append
    (omega (arith, number_short kind (omega arith), bytes-field tag.Unknown refl bytes, length-section (unknown kind bytes), le-aligned (filled (unknown kind bytes))))

sections-size : (ss : List Section) → All WellFormed ss → 2 * length (sheet ss) ≤ 7 * length (flat_map encode_section ss)
unfolding sheet records flat_map
sections-size [] oks = omega arith
sections-size (s ∷ ss) (ok, oks) =
    rw (flat_map-append line (records_of s) (records ss)) (simp length-append (omega (arith, section-size s ok, sections-size ss oks)))

pub sheet-size : SheetSize
sheet-size p s bytes e =
    let (h, is) = made-sheeted p s bytes e in
    omega (arith, sections-size h.ss h.ok, length-encode h.ss, ap length is, ap length h.is)
