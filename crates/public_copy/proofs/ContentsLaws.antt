-- Contents with nothing in them: entries of 16 bytes, and the frame around them.
-- Assumes nothing.
use Prim.Native.Nat.{ℕ, zero, suc, ◌+◌, ◌*◌, ◌-◌, ◌<◌, ◌≤◌}
use mathlib.Core.List.{List, [], ◌++◌, flat_map}
use mathlib.Core.Path.{◌≡◌, refl, ap, ◌∙◌}
use native.Mathlib.Omega.{arith}
use lib.ListN.{length, replicate, length-append, length-replicate}
use lib.Seq.{sets}
use Rattle.std.specs.Prelude.{Ok}
use Rattle.wire.specs.Length.{wire_size}
use Rattle.wire.specs.Number.{u32_at, bytes_of}
use Rattle.wire.specs.Padding.{padding, aligned}
use Rattle.wire.proofs.PaddingLaws.{aligned-by-arithmetic, aligned-of-multiple}
use Rattle.layout.specs.Kinds.{compression_number}
use Rattle.layout.specs.declared.compression.SourceCompression.{SourceCompression}
use Rattle.layout.specs.declared.compression.SourceCompression.TheVariants.{None, Zlib}
use Rattle.layout.specs.declared.section_type.SourceInfoSectionType.TheVariants.{SourceContents}
use Rattle.table.specs.declared.row.Row.{Row}
use Rattle.format.specs.CopyWalk.{contents_copy}
use Rattle.format.specs.Encoding.{content_entry, stored_bytes, body_header, kind_of}
use Rattle.format.specs.Parse.{entries, content_row_at, parse_stored, parse_contents}
use Rattle.format.specs.PublicCopy.{public_count}
use Rattle.format.specs.Sections.{plain, packed}
use Rattle.format.specs.Walk.{compression_at}
use Rattle.format.proofs.Encoding.{length-content_entry}
use Rattle.format.proofs.EntryLaws.{entry-good, entries_none, entries-first}
use Rattle.format.proofs.SectionBytes.{length-section}
use Rattle.format.proofs.SectionLaws.{contents-good, plain-good}
use Rattle.frames.specs.Frame.{contents_header, framed, entry_framed}
use Rattle.frames.proofs.Closed.{section-closed}
use Rattle.frames.proofs.EntryClosed.{content-closed}

-- ---- empty contents

pub length-empty : length (content_entry []) ≡ 16
unfolding aligned padding
length-empty = length-content_entry []

-- an empty content, closed in as many bytes
pub empty-closed : entry_framed (replicate 16 0) 0 12 12 ≡ content_entry []
unfolding content_entry bytes_of padding aligned
empty-closed = content-closed (replicate 16 0) 0 [] refl ∙ refl

abbrev pub empties : ℕ → List ℕ
empties count = flat_map content_entry (replicate count [])

pub length-empties : (count : ℕ) → length (empties count) ≡ 16 * count
unfolding flat_map
length-empties zero = refl
length-empties (suc count) = omega (arith, length-empties count, length-append (content_entry []) (empties count), length-empty)

-- the next of them, which ends before all of them do
pub empties-next : (count done : ℕ) → done < count → empties (count - done) ≡ content_entry [] ++ empties (count - (done + 1))
unfolding flat_map
empties-next count done more = let e : count - done ≡ suc (count - (done + 1)) = omega arith in rw e

pub empties-end : (count done : ℕ) → count ≤ done → empties (count - done) ≡ []
unfolding flat_map
empties-end count done ended = let e : count - done ≡ 0 = omega arith in rw e

-- ---- the two kinds: what they store, and the frame around it

-- what contents of a compression store
abbrev pub stored : SourceCompression → ℕ → List ℕ
stored None count = empties count
stored Zlib count = []

pub copy-long : (c : SourceCompression) (count : ℕ) → length (contents_copy c count) ≡ aligned (28 + length (stored c count))
unfolding contents_copy stored_bytes flat_map
copy-long None count = length-section (plain 0 (replicate count []))
copy-long Zlib count = length-section (packed 0 [] (public_count count) 0)

pub copy-closed :
    (c : SourceCompression) (count to : ℕ) {end : ℕ} →
    end ≡ to + 28 + length (stored c count) →
    (l : List ℕ) →
    framed (sets l (to + 28) (stored c count)) to end SourceContents (contents_header 0 (compression_number c) (end - (to + 28)) (end - (to + 28)) count)
    ≡ sets l to (contents_copy c count)
unfolding contents_copy stored_bytes body_header kind_of
copy-closed None count to {end = end} e l =
    let many : length (replicate {A = List ℕ} count []) ≡ count = length-replicate count [] in
    rw many at (section-closed (plain 0 (replicate count [])) to {end = end} (omega arith) l)
copy-closed Zlib count to {end = end} e l =
    let none : end - (to + 28) ≡ 0 = omega arith in
    rw none (rw none at (section-closed (packed 0 [] (public_count count) 0) to {end = end} (omega arith) l))

-- ---- they are no longer than the contents that they stand for

pub entries-least : (p : List ℕ) (end count at : ℕ) (rs : List Row) → entries 12 content_row_at count p at end ≡ Ok rs → at + 16 * count ≤ end
entries-least p end zero at rs e = omega (arith, (entries_none 12 p end content_row_at at rs e).0)
entries-least p end (suc count) at rs e =
    let (n, rest, first, others, same) = entries-first 12 p end content_row_at count at rs e in
    let told = entry-good 12 p at end n first in
    omega (arith, aligned-by-arithmetic (12 + wire_size n), entries-least p end count _ rest others)

pub contents-least :
    (p : List ℕ) (at size : ℕ) (rs : List Row) →
    parse_contents p at size ≡ Ok rs →
    length (contents_copy (compression_at p at) (u32_at p (at + 24))) ≤ size
contents-least p at size rs e =
    let (framed, held, flags, known) = contents-good p at size rs e in
    go (compression_at p at) held (omega (arith, framed.within))
  where
    plain-long : (count : ℕ) → length (contents_copy None count) ≡ 28 + 16 * count
    plain-long count =
        let stored : 28 + length (empties count) ≡ 28 + 16 * count = omega (arith, length-empties count) in
        copy-long None count ∙ ap aligned stored ∙ aligned-of-multiple (28 + 16 * count) (omega arith)

    go : (c : SourceCompression) → parse_stored c p at ≡ Ok rs → 28 + u32_at p (at + 16) ≤ size → length (contents_copy c (u32_at p (at + 24))) ≤ size
    go None f h =
        let plain = plain-good p at rs f in
        omega (arith, plain-long (u32_at p (at + 24)), entries-least p _ (u32_at p (at + 24)) (at + 28) plain.rest plain.found)
    go Zlib f h = omega (arith, copy-long Zlib (u32_at p (at + 24)), aligned-of-multiple 28 refl)
