-- A payload has at least two bytes for each of its rows, so that an index of a row is never past the place that it is read from.
-- Assumes nothing.
use Rattle.std.specs.Prelude.{Ok}
use Prim.Native.Nat.{ℕ, zero, suc, ◌+◌, ◌*◌, ◌≤◌}
use mathlib.Core.List.{List}
use mathlib.Core.Path.{◌≡◌, ap, ◌∙◌}
use native.Mathlib.Omega.{arith}
use lib.ListN.{length, length-append}
use Rattle.wire.specs.Number.{u16_at, u32_at}
use Rattle.layout.specs.Kinds.{checked_compression}
use Rattle.layout.specs.declared.compression.SourceCompression.{SourceCompression}
use Rattle.layout.specs.declared.compression.SourceCompression.TheVariants.{None, Zlib}
use Rattle.layout.specs.declared.section_type.SourceInfoSectionType.{SourceInfoSectionType}
use Rattle.layout.specs.declared.section_type.SourceInfoSectionType.TheVariants.{SourceContents, SourceNames, Arguments, Unknown}
use Rattle.layout.specs.Checked.{Checked}
use Rattle.table.specs.declared.row.Row.{Row}
use Rattle.format.specs.Parse.{name_row_at, content_row_at, parse_arguments, parse_names, parse_stored, parse_contents, parse_section, kind_at, parse_sections, parse}
use Rattle.format.proofs.EntryLaws.{entries-bound}
use Rattle.format.proofs.PairLaws.{pairs-bound}
use Rattle.format.proofs.SectionLaws.{contents-good, plain-good, names-good, arguments-good, sections-good, sections-end, parse-good}

-- how many rows were found
rows-length : {found : List Row} (rs : List Row) → ◌≡◌ {A = Checked (List Row)} (Ok found) (Ok rs) → length found ≡ length rs
rows-length {found} rs e = let same : found ≡ rs = cc in ap length same

module _ (p : List ℕ) (at size : ℕ) (rs : List Row) where
  contents-count : parse_contents p at size ≡ Ok rs → 2 * length rs ≤ size
  unfolding parse_stored
  contents-count e = let told = contents-good p at size rs e in go (checked_compression (u16_at p (at + 14))) told.0.within told.1
    where
      go : (c : SourceCompression) → 28 + u32_at p (at + 16) ≤ size → parse_stored c p at ≡ Ok rs → 2 * length rs ≤ size
      go None h f =
          let told = plain-good p at rs f in
          omega (arith, (entries-bound 12 p _ content_row_at (u32_at p (at + 24)) (at + 28) told.rest told.found).0, ap length told.all)
      go Zlib h f = omega (arith, rows-length rs f)

  names-count : parse_names p at size ≡ Ok rs → 2 * length rs ≤ size
  names-count e =
      let told = names-good p at size rs e in
      let h = told.1 in
      omega (arith, told.0.within, (entries-bound 16 p _ (name_row_at p) (u32_at p (at + 12)) (at + 18) h.rest h.found).0, ap length h.all)

  arguments-count : parse_arguments p at size ≡ Ok rs → 2 * length rs ≤ size
  arguments-count e =
      let told = arguments-good p at size rs e in
      let h = told.1 in
      omega (arith, told.0.within, (pairs-bound p _ (u32_at p (at + 16)) (at + 20) h.rest h.found).0, ap length h.all)

  pub section-count : (kind : SourceInfoSectionType) → 8 ≤ size → parse_section kind p at size ≡ Ok rs → 2 * length rs ≤ size
  unfolding parse_section
  section-count SourceContents h e = contents-count e
  section-count SourceNames h e = names-count e
  section-count Arguments h e = arguments-count e
  section-count (Unknown kind) h e = omega (arith, rows-length rs e)

pub sections-count : (p : List ℕ) (count at : ℕ) (rs : List Row) → parse_sections count p at ≡ Ok rs → at + 2 * length rs ≤ length p
sections-count p zero at rs e = let told = sections-end p at rs e in omega (arith, told.0, ap length told.1)
sections-count p (suc count) at rs e =
    let told = sections-good p at count rs e in
    let both : length rs ≡ length told.first + length told.rest = ap length told.all ∙ length-append told.first told.rest in
    omega (
      arith,
      section-count p at (u32_at p at) told.first (kind_at p at) told.header told.first_good,
      sections-count p count (at + u32_at p at) told.rest told.rest-good,
    )

pub parse-count : (p : List ℕ) (rs : List Row) → parse p ≡ Ok rs → 8 + 2 * length rs ≤ length p
parse-count p rs e = sections-count p (u16_at p 6) 8 rs (parse-good p rs e).1
