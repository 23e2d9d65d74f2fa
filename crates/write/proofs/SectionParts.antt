-- The section that a row begins, by its row's tag: what it stores and where, how many rows are its entries, and what stands around it.
-- Assumes nothing.
use Rattle.std.specs.Prelude.{Option, Some, None}
use Prim.Native.Nat.{ℕ, ◌+◌, ◌-◌, ◌≤◌}
use mathlib.Core.Bool.{true}
use mathlib.Core.List.{List, []}
use mathlib.Core.Logic.{◌⊎◌, inl, inr}
use mathlib.Core.Path.{◌≡◌, refl, sym, ap, ◌∙◌}
use native.Mathlib.Omega.{arith}
use lib.ListN.{length, get_or, drop}
use lib.Seq.{sets}
use Rattle.wire.specs.Length.{wire_size}
use Rattle.wire.specs.Padding.{aligned}
use Rattle.wire.proofs.PaddingLaws.{le-aligned}
use Rattle.layout.specs.Kinds.{compression_number}
use Rattle.layout.specs.Spans.{span_bytes}
use Rattle.layout.specs.declared.compression.SourceCompression.TheVariants as compression
use Rattle.layout.specs.declared.section_type.SourceInfoSectionType.{SourceInfoSectionType}
use Rattle.layout.specs.declared.section_type.SourceInfoSectionType.TheVariants as kind
use Rattle.table.specs.Rows.{no_row, bytes_span}
use Rattle.table.specs.Tags.{tag_of, entry_tag, begins_section, headers_size}
use Rattle.table.specs.declared.row.Row.{Row}
use Rattle.table.specs.declared.tag.Tag.{Tag}
use Rattle.table.specs.declared.tag.Tag.TheVariants as tag
use Rattle.table.proofs.Leading.{leading-count}
use Rattle.layout.proofs.Lists.{flat_map-least}
use Rattle.format.specs.Encoding.{limit, stored_bytes, body_header, kind_of, encode_section}
use Rattle.format.specs.Resolve.{leading, begun, content_of, name_of, pair_of}
use Rattle.format.specs.Sections.{Section}
use Rattle.format.proofs.Encoding.{length-content_entry, length-name_entry, length-pair_entry}
use Rattle.format.proofs.SectionBytes.{start, filled, length-section}
use Rattle.frames.specs.Frame.{framed, contents_header, names_header, arguments_header}
use Rattle.frames.proofs.Closed.{closed-size, section-closed}
use Rattle.write.specs.declared.position.Position.{Position}
use Rattle.write.specs.Run.{row_bytes, run_bytes}
use Rattle.write.specs.Source.{rows, section, MayWrite}
use Rattle.write.specs.declared.source.Source.{Source}
use Rattle.write.specs.Section.{entry_count, entries_of, section_at, next_section}
use Rattle.write.proofs.RunLaws.{run-contents, run-names, run-pairs}

-- a section's kind, and its body header for so many stored bytes
pub record Headed (s : Section) (k : SourceInfoSectionType) (header : ℕ → List ℕ) : Type 0 where
  pub kinded : kind_of s ≡ k
  pub headed : (n : ℕ) → body_header s n ≡ header n

-- ---- there are no more entries than bytes of them

module _ (payload edit : List ℕ) where
  row-least : (t : Tag) → (t ≡ tag.Content) ⊎ ((t ≡ tag.Name) ⊎ (t ≡ tag.Pair)) → (r : Row) → 1 ≤ length (row_bytes payload edit t r)
  unfolding row_bytes
  row-least t (inl q) r =
      let text = content_of payload edit r in
      rw q (omega (arith, length-content_entry text, le-aligned (12 + wire_size (length text))))
  row-least t (inr (inl q)) r =
      let name = name_of payload edit r in
      rw q (omega (arith, length-name_entry name, le-aligned (16 + wire_size (length name.text))))
  row-least t (inr (inr q)) r = rw q (omega (arith, length-pair_entry (pair_of payload edit r)))

  run-many : (t : Tag) → (t ≡ tag.Content) ⊎ ((t ≡ tag.Name) ⊎ (t ≡ tag.Pair)) → (rows : List Row) → entry_count (Some t) rows ≤ length (run_bytes payload edit t rows)
  unfolding run_bytes
  run-many t h rows = flat_map-least (row_bytes payload edit t) (row-least t h) _

module _ (payload edit : List ℕ) (all : List Row) (index : ℕ) where
  abbrev row : Row
  row = get_or all index no_row

  abbrev rest : List Row
  rest = drop (index + 1) all

  abbrev s : Section
  s = section_at payload edit all index

  -- ---- what it stores: the bytes that its row names, or its entries

  own-stored : (t : Tag) → begins_section t ≡ true → tag_of row.tag ≡ Some t → entry_tag t ≡ None → (stored_bytes s ≡ span_bytes payload edit (bytes_span row)) × (entries_of (Some t) rest ≡ 0)
  unfolding begun stored_bytes
  own-stored tag.PlainContents b q n = cc
  own-stored tag.PackedContents b q n = (rw q, refl)
  own-stored tag.Names b q n = cc
  own-stored tag.Arguments b q n = cc
  own-stored tag.Unknown b q n = (rw q, refl)
  own-stored tag.Content b q n = cc
  own-stored tag.Name b q n = cc
  own-stored tag.Pair b q n = cc

  pub record Run (t e : Tag) : Type 0 where
    pub stored : stored_bytes s ≡ run_bytes payload edit e rest
    pub count : entries_of (Some t) rest ≡ entry_count (Some e) rest
    pub many : entry_count (Some e) rest ≤ length (run_bytes payload edit e rest)

  run-stored : (t e : Tag) → begins_section t ≡ true → tag_of row.tag ≡ Some t → entry_tag t ≡ Some e → Run t e
  unfolding begun stored_bytes
  run-stored tag.PlainContents e b q n =
      let own : tag.Content ≡ e = cc in
      rw (← own) (record { stored = rw q (sym (run-contents payload edit rest)); count = refl; many = run-many payload edit tag.Content (inl refl) rest })
  run-stored tag.PackedContents e b q n = cc
  run-stored tag.Names e b q n =
      let own : tag.Name ≡ e = cc in
      rw (← own) (record { stored = rw q (sym (run-names payload edit rest)); count = refl; many = run-many payload edit tag.Name (inr (inl refl)) rest })
  run-stored tag.Arguments e b q n =
      let own : tag.Pair ≡ e = cc in
      rw (← own) (record { stored = rw q (sym (run-pairs payload edit rest)); count = refl; many = run-many payload edit tag.Pair (inr (inr refl)) rest })
  run-stored tag.Unknown e b q n = cc
  run-stored tag.Content e b q n = cc
  run-stored tag.Name e b q n = cc
  run-stored tag.Pair e b q n = cc

  -- ---- where it stores that

  starts : (t : Tag) → begins_section t ≡ true → tag_of row.tag ≡ Some t → start s ≡ headers_size t
  unfolding begun stored_bytes body_header kind_of
  starts tag.PlainContents b q = rw q
  starts tag.PackedContents b q = rw q
  starts tag.Names b q = rw q
  starts tag.Arguments b q = rw q
  starts tag.Unknown b q = rw q
  starts tag.Content b q = cc
  starts tag.Name b q = cc
  starts tag.Pair b q = cc

  -- where the section ends within the limit, the stored bytes do too
  within : (t : Tag) → begins_section t ≡ true → tag_of row.tag ≡ Some t → (at : ℕ) → at + length (encode_section s) ≤ limit → at + headers_size t + length (stored_bytes s) ≤ limit
  within t b q at small = omega (arith, starts t b q, length-section s, le-aligned (filled s))

-- ---- the section at a position, where it may be written

module _ {source : Source} {t : Tag} {p : Position} (m : MayWrite source (Some t) p) where
  abbrev this : Section
  this = section source p

  begun_at : start this ≡ headers_size t
  begun_at = starts source.sides.payload.now source.sides.edit.now (rows source) p.index t m.begins m.writable.1

  -- its stored bytes end within the limit
  pub fits : p.at + headers_size t + length (stored_bytes this) ≤ limit
  fits = within _ _ (rows source) p.index t m.begins m.writable.1 p.at m.writable.4

  -- it stores the bytes that its row names
  pub own :
      {e : Option Tag} {r : Row} {bytes : List ℕ} →
      e ≡ entry_tag t →
      e ≡ None →
      r ≡ get_or (rows source) p.index no_row →
      bytes ≡ span_bytes source.sides.payload.now source.sides.edit.now (bytes_span r) →
      (bytes ≡ stored_bytes this) × (entries_of (Some t) (drop (p.index + 1) (rows source)) ≡ 0)
  own is none row named =
      let (stored, count) = own-stored source.sides.payload.now source.sides.edit.now (rows source) p.index t m.begins m.writable.1 (sym is ∙ none) in
      (rw row at named ∙ sym stored, count)

  -- or its entries
  pub run : {e : Tag} → Some e ≡ entry_tag t → Run source.sides.payload.now source.sides.edit.now (rows source) p.index t e
  run {e = e} is = run-stored source.sides.payload.now source.sides.edit.now (rows source) p.index t e m.begins m.writable.1 (sym is)

  -- where the row after it stands
  pub onward : next_section (rows source) p.index ≡ p.index + 1 + entries_of (Some t) (drop (p.index + 1) (rows source))
  onward = rw m.writable.1

  -- how many bytes it has
  pub written-size : length (encode_section this) ≡ aligned (p.at + headers_size t + length (stored_bytes this) - p.at)
  written-size = sym (closed-size this p.at {end = p.at + headers_size t + length (stored_bytes this)} (omega (arith, begun_at)))

  -- what it stores, closed, is the section
  pub closed :
      {k : SourceInfoSectionType} {header : ℕ → List ℕ} →
      Headed this k header →
      (l : List ℕ) {start end : ℕ} {whole : List ℕ} →
      start ≡ p.at →
      end ≡ p.at + headers_size t + length (stored_bytes this) →
      whole ≡ framed (sets l (p.at + headers_size t) (stored_bytes this)) start end k (header (end - (start + headers_size t))) →
      whole ≡ sets l p.at (encode_section this)
  closed h l {end = end} from ends around =
      let span : end ≡ p.at + filled this = omega (arith, begun_at) in
      cc (begun_at, h.kinded, h.headed (end - (p.at + headers_size t)), section-closed this p.at span l)

-- where the position moves to
pub ruleset moved = (written-size)

-- ---- what stands around the stored bytes of a section, by its tag

module _ (source : Source) (p : Position) where
  abbrev begun-by : Row
  begun-by = get_or (rows source) p.index no_row

  abbrev entries : Tag → ℕ
  entries t = entries_of (Some t) (drop (p.index + 1) (rows source))

  pub plain-headed : MayWrite source (Some tag.PlainContents) p → Headed (section source p) kind.SourceContents (λ n. contents_header begun-by.a (compression_number compression.None) n n (entries tag.PlainContents))
  unfolding begun leading body_header kind_of
  plain-headed m = rw m.writable.1 (record { kinded = refl; headed = λ n. ap (contents_header _ _ n n) (leading-count _ _ _ (drop (p.index + 1) (rows source))) })

  pub packed-headed : MayWrite source (Some tag.PackedContents) p → Headed (section source p) kind.SourceContents (λ n. contents_header begun-by.a (compression_number compression.Zlib) n begun-by.e begun-by.d)
  unfolding begun body_header kind_of
  packed-headed m = rw m.writable.1 (record { kinded = refl; headed = λ n. refl })

  pub names-headed : MayWrite source (Some tag.Names) p → Headed (section source p) kind.SourceNames (λ n. names_header n (entries tag.Names))
  unfolding begun leading body_header kind_of
  names-headed m = rw m.writable.1 (record { kinded = refl; headed = λ n. ap (names_header n) (leading-count _ _ _ (drop (p.index + 1) (rows source))) })

  pub arguments-headed : MayWrite source (Some tag.Arguments) p → Headed (section source p) kind.Arguments (λ n. arguments_header n (entries tag.Arguments))
  unfolding begun leading body_header kind_of
  arguments-headed m = rw m.writable.1 (record { kinded = refl; headed = λ n. ap (arguments_header n) (leading-count _ _ _ (drop (p.index + 1) (rows source))) })

  pub unknown-headed : MayWrite source (Some tag.Unknown) p → Headed (section source p) (kind.Unknown begun-by.a) (λ n. [])
  unfolding begun body_header kind_of
  unknown-headed m = rw m.writable.1 (record { kinded = refl; headed = λ n. refl })

  -- an unknown kind fits its field
  pub kind-fits : MayWrite source (Some tag.Unknown) p → begun-by.a ≤ 65535
  kind-fits m = rw (unknown-headed m).kinded at m.writable.2
