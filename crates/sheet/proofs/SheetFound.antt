-- The walk of specs/SheetWalk.antt finds the sheet: where sections stand, the records at their places are theirs.
-- Assumes nothing.
use Rattle.std.specs.Prelude.{Ok}
use Prim.Native.Nat.{ℕ, ◌+◌, ◌-◌, ◌≤◌}
use mathlib.Core.List.{List, [], ◌∷◌, map, flat_map}
use mathlib.Core.Path.{◌≡◌, refl, sym, ap, ap₂, ◌∙◌}
use native.Mathlib.Omega.{arith}
use lib.ListN.{length, length-append}
use Rattle.wire.specs.Number.{u32_at}
use Rattle.wire.specs.Padding.{aligned}
use Rattle.wire.proofs.PaddingLaws.{le-aligned, aligned-of-multiple}
use Rattle.layout.specs.Checked.{Checked}
use Rattle.layout.specs.Spans.{part}
use Rattle.table.specs.declared.row.Row.{Row}
use Rattle.table.specs.declared.tag.Tag.TheVariants as tag
use Rattle.format.specs.Encoding.{limit, content_entry, name_entry, stored_bytes, kind_of}
use Rattle.format.specs.Parse.{parse}
use Rattle.format.specs.Records.{Record, says, content_record, name_record, records_of, records}
use Rattle.format.specs.Sections.{Name, Section, plain, packed, names, arguments, unknown}
use Rattle.format.specs.Walk.{places}
use Rattle.format.specs.WellFormed.{Bytes, All, Text, NameOk}
use Rattle.format.proofs.Encoded.{resolves}
use Rattle.format.proofs.Encoding.{length-content_entry}
use Rattle.format.proofs.EntryBytes.{content-is, stands-fields}
use Rattle.format.proofs.FactsFound.{name-found, pairs-found}
use Rattle.format.proofs.Measured.{ByWalk}
use Rattle.format.proofs.PayloadStands.{payload-stands}
use Rattle.format.proofs.SectionBytes.{filled, length-section}
use Rattle.format.proofs.SectionsFound.{Here, paired-flat_map, payload-here}
use Rattle.format.proofs.Stands.{Stands, stands-first, stands-next, stands-part}
use Rattle.layout.proofs.Checked.{after-fault, then-passes}
use Rattle.sheet.specs.Lines.{line}
use Rattle.sheet.specs.SheetWalk.{content_at, name_at, entries_at, contents_records, section_records, records_at, sheet_lines}
use Rattle.sheet.specs.ToSheet.{sheet, to_sheet}

module _ (p : List ℕ) (small : length p ≤ limit) where
  -- ---- entries

  content-found :
      (at : ℕ) (text : List ℕ) →
      Text text →
      at + length (content_entry text) ≤ length p →
      Stands p at (content_entry text) →
      (content_at p at ≡ content_record text) × (u32_at p at ≡ length (content_entry text))
  content-found at text ok room s =
      let spans = length-content_entry text in
      let (g, middle, this) = stands-fields 12 [] refl p at (length p) (omega arith) text small ok (omega arith) (rw content-is at s) in
      let long : u32_at p (at + 8) - 1 ≡ length text = omega (arith, g.text) in
      (ap content_record (ap (λ (k : ℕ). part p (at + 12) k) long ∙ stands-part p (at + 12) text this), omega (arith, g.size))

  named-found :
      (at : ℕ) (x : Name) →
      NameOk x →
      at + length (name_entry x) ≤ length p →
      Stands p at (name_entry x) →
      (name_at p at ≡ name_record x) × (u32_at p at ≡ length (name_entry x))
  named-found at x ok room s =
      let (text, size, content) = name-found p small at x ok room s in
      (ap₂ (λ (n : ℕ) (t : List ℕ). says tag.Name (n ∷ []) (t ∷ [])) content text, size)

  -- a run of entries of one kind
  entries-found :
      {A : Type 0} (P : A → Type 0) (own : A → Record) (entry : A → List ℕ) (record_at : ℕ → Record) →
      ((at : ℕ) (x : A) → P x → at + length (entry x) ≤ length p → Stands p at (entry x) → (record_at at ≡ own x) × (u32_at p at ≡ length (entry x))) →
      (xs : List A) (at : ℕ) →
      All P xs →
      at + length (flat_map entry xs) ≤ length p →
      Stands p at (flat_map entry xs) →
      entries_at p record_at (length xs) at ≡ map own xs
  unfolding entries_at flat_map
  entries-found P own entry record_at each [] at oks room s = refl
  entries-found P own entry record_at each (x ∷ xs) at (ok, oks) room s =
      let sizes = length-append (entry x) (flat_map entry xs) in
      let (this, size) = each at x ok (omega arith) (stands-first p at (entry x) (flat_map entry xs) s) in
      let next : ℕ = at + u32_at p at in
      let rest = entries-found P own entry record_at each xs next oks (omega arith) (stands-next p at (entry x) (flat_map entry xs) next (omega arith) s) in
      ap₂ (λ (r : Record) (l : List Record). r ∷ l) this rest

-- ---- sections

section-found : (p : List ℕ) (at : ℕ) (s : Section) → Here p at s → records_at p at ≡ records_of s
unfolding section_records contents_records records_of kind_of stored_bytes
section-found p at s h = rw h.kind (go s h)
  where
    go : (s : Section) → Here p at s → section_records p (kind_of s) at ≡ records_of s
    go (plain header texts) h =
        let (field, flags, compression, bytes, equal, count) = h.fields in
        let room : at + 28 + length (flat_map content_entry texts) ≤ length p = omega (arith, h.within, length-section (plain header texts), le-aligned (filled (plain header texts))) in
        let run = entries-found p h.small Text content_record content_entry (content_at p) (content-found p h.small) texts (at + 28) h.ok.1 room h.parts.stored in
        rw (compression, field, count, run)
    go (packed header stream many uncompressed) h =
        let (field, flags, compression, bytes, size, count) = h.fields in
        rw (compression, field, count, size, bytes, stands-part p (at + 28) stream h.parts.stored)
    go (names ns) h =
        let (flags, count, bytes) = h.fields in
        let room : at + 18 + length (flat_map name_entry ns) ≤ length p = omega (arith, h.within, length-section (names ns), le-aligned (filled (names ns))) in
        let run = entries-found p h.small NameOk name_record name_entry (name_at p) (named-found p h.small) ns (at + 18) h.ok room h.parts.stored in
        rw (count, run)
    go (arguments xs) h =
        let (flags, bytes, count) = h.fields in
        rw (count, pairs-found p h.small xs (at + 20) h.ok h.parts.stored)
    go (unknown kind bytes) h =
        let size : u32_at p at ≡ aligned (8 + length bytes) = h.parts.size in
        let whole : u32_at p at - 8 ≡ length bytes = omega (arith, aligned-of-multiple (8 + length bytes) (omega (arith, h.ok.3))) in
        rw (whole, stands-part p (at + 8) bytes h.parts.stored)

-- of an accepted payload the walk is the sheet
sheet-found : (p : List ℕ) (rows : List Row) → Bytes p → parse p ≡ Ok rows → to_sheet p ≡ Ok (sheet_lines p)
unfolding to_sheet sheet sheet_lines records
sheet-found p rows bytes e =
    let all = payload-stands p bytes rows e in
    let ss : List Section = all.sections in
    let same : flat_map records_of ss ≡ flat_map (records_at p) (places p) = sym (paired-flat_map (Here p) (records_at p) records_of (section-found p) (places p) ss (payload-here p rows all)) in
    then-passes _ _ e (then-passes _ _ (resolves ss all.ok p rows all.is all.rows []) refl) ∙
    ap {B = Checked (List ℕ)} (λ (l : List Record). Ok (flat_map line l)) same

pub sheet-by-walk : ByWalk to_sheet sheet_lines
unfolding to_sheet
sheet-by-walk = record { refuses = λ p e. after-fault _ _ e; finds = sheet-found }
