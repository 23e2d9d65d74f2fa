-- The section that the first of some records begins: its stored bytes and what closes them, and the records after it.
-- Assumes nothing.
use Rattle.std.specs.Prelude.{Some, None}
use Prim.Native.Nat.{ℕ, ◌+◌, ◌-◌, ◌≤◌}
use mathlib.Core.Bool.{true, and-eq-true_iff}
use mathlib.Core.List.{List, ◌∷◌, ◌++◌, flat_map}
use mathlib.Core.Path.{◌≡◌, sym, ap, ◌∙◌}
use native.Mathlib.Omega.{arith}
use lib.ListN.{length, length-append}
use lib.Seq.{sets}
use Rattle.std.proofs.lemmas.Option.{none-some}
use Rattle.wire.specs.Padding.{aligned}
use Rattle.wire.proofs.PaddingLaws.{le-aligned}
use Rattle.table.specs.Tags.{entry_tag, begins_section, headers_size}
use Rattle.table.specs.declared.tag.Tag.{Tag}
use Rattle.table.proofs.Tags.{entry-begins-none}
use Rattle.format.specs.Encoding.{stored_bytes, encode_section}
use Rattle.format.specs.Records.{Record, is_placed, in_order, sections}
use Rattle.format.specs.Sections.{Section}
use Rattle.format.proofs.Records.{Placed, placed, begins, entry}
use Rattle.format.proofs.SectionBytes.{filled, length-section}
use Rattle.frames.proofs.Closed.{closed-size, section-closed}
use Rattle.from_sheet.specs.Run.{run, past}
use Rattle.from_sheet.specs.Section.{section_of, Framed}
use Rattle.from_sheet.proofs.RunLaws.{past-sections, past-order}
use Rattle.from_sheet.proofs.SectionParts.{header-start, begins-one, few-entries}

module _ (r : Record) (rs : List Record) (stands : in_order None (r ∷ rs) ≡ true) where
  abbrev t : Tag
  t = r.tag

  -- the section that the record begins
  abbrev found : Section
  found = section_of t r rs

  pub record Begun : Type 0 where
    pub begins : begins_section t ≡ true
    pub order : in_order (Some t) rs ≡ true
    pub all : sections (r ∷ rs) ≡ found ∷ sections rs

  pub begun-here : Begun
  unfolding in_order sections
  begun-here =
      let (here, rest) = (and-eq-true_iff (is_placed None t) (in_order (Some t) rs)).0 stands in
      let b = section-first t here in
      record { begins = b; order = rest; all = ap (λ (l : List Section). l ++ sections rs) (begins-one t r rs b) }
    where
      section-first : (t : Tag) → is_placed None t ≡ true → begins_section t ≡ true
      section-first t h = go (placed None t h)
        where
          go : Placed None t → begins_section t ≡ true
          go (begins b) = b
          go (entry b e fixed) = absurd (none-some t e)

  h : Begun
  h = begun-here

  -- its stored bytes end where it does, or before
  pub body-within : headers_size t + length (stored_bytes found) ≤ length (encode_section found)
  body-within = omega (arith, header-start t r rs h.begins, length-section found, le-aligned (filled found))

  -- it has no more entries than stored bytes
  pub entries-within : length (run (entry_tag t) rs) ≤ length (stored_bytes found)
  entries-within = few-entries t r rs h.begins

  -- its stored bytes, closed, are it
  pub closed-here :
      (l l' l'' : List ℕ) (start stop count after : ℕ) →
      stop ≡ start + headers_size t + length (stored_bytes found) →
      l' ≡ sets l (start + headers_size t) (stored_bytes found) →
      count ≡ length (run (entry_tag t) rs) →
      after ≡ start + aligned (stop - start) →
      Framed r l' start stop count l'' →
      (after ≡ start + length (encode_section found)) × (l'' ≡ sets l start (encode_section found))
  closed-here l l' l'' start stop count after e stored counted ends framed =
      let top = header-start t r rs h.begins in
      let whole : stop ≡ start + filled found = omega arith in
      (ends ∙ ap (λ (n : ℕ). start + n) (closed-size found start whole), framed rs counted ∙ rw (stored, ← top) (section-closed found start whole l))

  -- after its entries comes the next one
  pub next-sections : sections (r ∷ rs) ≡ found ∷ sections (past (entry_tag t) rs)
  next-sections = h.all ∙ ap (λ (ss : List Section). found ∷ ss) (sym (past-sections (entry_tag t) (entry-begins-none (Some t)) rs))

  pub next-order : in_order None (past (entry_tag t) rs) ≡ true
  next-order = past-order (Some t) rs h.order

  -- there is room for it where there is room for all
  pub first-within : length (encode_section found) ≤ length (flat_map encode_section (sections (r ∷ rs)))
  unfolding flat_map
  first-within =
      omega (arith, ap (λ (ss : List Section). length (flat_map encode_section ss)) h.all, length-append (encode_section found) (flat_map encode_section (sections rs)))
