-- The section that a record begins, by its parts, and what a function that stores those parts has to know.
-- Assumes nothing.
use Rattle.std.specs.Prelude.{Option, Some}
use Prim.Native.Nat.{ℕ, ◌-◌, ◌≤◌}
use mathlib.Core.Bool.{true}
use mathlib.Core.List.{List, [], ◌∷◌}
use mathlib.Core.Path.{◌≡◌, refl, sym, ap}
use native.Mathlib.Omega.{arith}
use lib.ListN.{length, get_or}
use Rattle.table.specs.Tags.{entry_tag, begins_section, headers_size}
use Rattle.table.specs.declared.tag.Tag.{Tag}
use Rattle.table.specs.declared.tag.Tag.TheVariants as tag
use Rattle.table.proofs.Leading.{leading-count}
use Rattle.layout.specs.Kinds.{compression_number}
use Rattle.layout.specs.declared.compression.SourceCompression.TheVariants as compression
use Rattle.layout.specs.declared.section_type.SourceInfoSectionType.{SourceInfoSectionType}
use Rattle.layout.specs.declared.section_type.SourceInfoSectionType.TheVariants as kind
use Rattle.format.specs.Encoding.{stored_bytes, body_header, kind_of}
use Rattle.format.specs.Records.{Record, number_count, number, text, leading, begun}
use Rattle.format.specs.Sections.{Section, unknown}
use Rattle.format.proofs.SectionBytes.{start}
use Rattle.frames.specs.Frame.{framed, contents_header, names_header, arguments_header}
use Rattle.sheet.specs.Fields.{bytes_of_pairs}
use Rattle.sheet.specs.Lines.{said}
use Rattle.from_sheet.specs.Run.{run, run_bytes, past}
use Rattle.from_sheet.specs.Section.{section_of}
use Rattle.from_sheet.proofs.RunLaws.{run-contents, run-names, run-pairs, past-no-tag, run-many}

-- ---- the parts, by the tag

-- a section's stored bytes, its body header for so many of them, its kind
pub record Parts (s : Section) (bytes : List ℕ) (header : ℕ → List ℕ) (k : SourceInfoSectionType) : Type 0 where
  pub stored : stored_bytes s ≡ bytes
  pub headed : (n : ℕ) → body_header s n ≡ header n
  pub kinded : kind_of s ≡ k

module _ (r : Record) (rs : List Record) where
  abbrev count : Option Tag → ℕ
  count t = length (run t rs)

  pub plain-parts : Parts (section_of tag.PlainContents r rs) (run_bytes (Some tag.Content) rs) (λ n. contents_header (number 0 r) (compression_number compression.None) n n (count (Some tag.Content))) kind.SourceContents
  unfolding begun leading stored_bytes body_header kind_of
  plain-parts = record { stored = sym (run-contents rs); headed = λ n. ap (contents_header _ _ n n) (leading-count _ _ _ rs); kinded = refl }

  pub packed-parts : Parts (section_of tag.PackedContents r rs) (text 0 r) (λ n. contents_header (number 0 r) (compression_number compression.Zlib) n (number 2 r) (number 1 r)) kind.SourceContents
  unfolding begun stored_bytes body_header kind_of
  packed-parts = record { stored = refl; headed = λ n. refl; kinded = refl }

  pub names-parts : Parts (section_of tag.Names r rs) (run_bytes (Some tag.Name) rs) (λ n. names_header n (count (Some tag.Name))) kind.SourceNames
  unfolding begun leading stored_bytes body_header kind_of
  names-parts = record { stored = sym (run-names rs); headed = λ n. ap (names_header n) (leading-count _ _ _ rs); kinded = refl }

  pub arguments-parts : Parts (section_of tag.Arguments r rs) (run_bytes (Some tag.Pair) rs) (λ n. arguments_header n (count (Some tag.Pair))) kind.Arguments
  unfolding begun leading stored_bytes body_header kind_of
  arguments-parts = record { stored = sym (run-pairs rs); headed = λ n. ap (arguments_header n) (leading-count _ _ _ rs); kinded = refl }

  pub unknown-parts : Parts (section_of tag.Unknown r rs) (text 0 r) (λ n. []) (kind.Unknown (number 0 r))
  unfolding begun stored_bytes body_header kind_of
  unknown-parts = record { stored = refl; headed = λ n. refl; kinded = refl }

-- what stands around the parts stands around the section
pub closes :
    {s : Section} {bytes : List ℕ} {header : ℕ → List ℕ} {k : SourceInfoSectionType} →
    Parts s bytes header k →
    (output : List ℕ) (start end n : ℕ) {after : List ℕ} →
    after ≡ framed output start end k (header n) →
    after ≡ framed output start end (kind_of s) (body_header s n)
closes parts output start end n e = rw (parts.kinded, parts.headed n) e

-- ---- where a tag begins a section

pub header-start : (t : Tag) (r : Record) (rs : List Record) → begins_section t ≡ true → start (section_of t r rs) ≡ headers_size t
unfolding begun
header-start tag.PlainContents r rs b = refl
header-start tag.PackedContents r rs b = refl
header-start tag.Names r rs b = refl
header-start tag.Arguments r rs b = refl
header-start tag.Unknown r rs b = refl
header-start tag.Content r rs b = absurd cc
header-start tag.Name r rs b = absurd cc
header-start tag.Pair r rs b = absurd cc

pub begins-one : (t : Tag) (r : Record) (rs : List Record) → begins_section t ≡ true → begun t r rs ≡ get_or (begun t r rs) 0 (unknown 0 []) ∷ []
unfolding begun
begins-one tag.PlainContents r rs b = refl
begins-one tag.PackedContents r rs b = refl
begins-one tag.Names r rs b = refl
begins-one tag.Arguments r rs b = refl
begins-one tag.Unknown r rs b = refl
begins-one tag.Content r rs b = absurd cc
begins-one tag.Name r rs b = absurd cc
begins-one tag.Pair r rs b = absurd cc

-- ---- what a section stores: the bytes that its record says, or its entries

-- the bytes that a field of its line says, and no entries
pub record Own (r : Record) (rs : List Record) (f : List ℕ) : Type 0 where
  pub stored : stored_bytes (section_of r.tag r rs) ≡ bytes_of_pairs f
  pub none : run (entry_tag r.tag) rs ≡ []
  pub past_all : past (entry_tag r.tag) rs ≡ rs

module _ (r : Record) (rs : List Record) (f : List ℕ) where
  pub packed-own : tag.PackedContents ≡ r.tag → said r.tag f ≡ text (3 - number_count r.tag) r → Own r rs f
  unfolding begun stored_bytes
  packed-own e says =
      let (empty, whole) = past-no-tag rs in
      record { stored = rw (← e) (sym (rw (← e) at says)); none = rw (← e) empty; past_all = rw (← e) whole }

  pub unknown-own : tag.Unknown ≡ r.tag → said r.tag f ≡ text (1 - number_count r.tag) r → Own r rs f
  unfolding begun stored_bytes
  unknown-own e says =
      let (empty, whole) = past-no-tag rs in
      record { stored = rw (← e) (sym (rw (← e) at says)); none = rw (← e) empty; past_all = rw (← e) whole }

pub entries-stored :
    (t : Tag) (r : Record) (rs : List Record) →
    begins_section t ≡ true →
    (t ≡ tag.PackedContents → ⊥) →
    (t ≡ tag.Unknown → ⊥) →
    stored_bytes (section_of t r rs) ≡ run_bytes (entry_tag t) rs
entries-stored tag.PlainContents r rs b p u = (plain-parts r rs).stored
entries-stored tag.PackedContents r rs b p u = absurd (p refl)
entries-stored tag.Names r rs b p u = (names-parts r rs).stored
entries-stored tag.Arguments r rs b p u = (arguments-parts r rs).stored
entries-stored tag.Unknown r rs b p u = absurd (u refl)
entries-stored tag.Content r rs b p u = absurd cc
entries-stored tag.Name r rs b p u = absurd cc
entries-stored tag.Pair r rs b p u = absurd cc

-- there are no more entries than stored bytes
pub few-entries : (t : Tag) (r : Record) (rs : List Record) → begins_section t ≡ true → length (run (entry_tag t) rs) ≤ length (stored_bytes (section_of t r rs))
few-entries tag.PlainContents r rs b = rw (plain-parts r rs).stored (run-many rs tag.PlainContents)
few-entries tag.PackedContents r rs b = rw (past-no-tag rs).0 (omega arith)
few-entries tag.Names r rs b = rw (names-parts r rs).stored (run-many rs tag.Names)
few-entries tag.Arguments r rs b = rw (arguments-parts r rs).stored (run-many rs tag.Arguments)
few-entries tag.Unknown r rs b = rw (past-no-tag rs).0 (omega arith)
few-entries tag.Content r rs b = absurd cc
few-entries tag.Name r rs b = absurd cc
few-entries tag.Pair r rs b = absurd cc
