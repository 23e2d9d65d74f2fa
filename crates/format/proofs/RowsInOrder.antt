-- Rows of an accepted payload have side 0, and name texts and bytes in wire order: section by section, and item by item.
-- Assumes nothing.
use Prim.Native.Nat.{ℕ, ◌+◌, ◌≤◌}
use mathlib.Core.List.{List, [], ◌∷◌, ◌++◌, flat_map}
use mathlib.Core.Path.{◌≡◌, refl, ap}
use native.Mathlib.Omega.{arith}
use lib.ListN.{length, length-append}
use Rattle.wire.specs.Length.{wire_size}
use Rattle.wire.proofs.PaddingLaws.{le-aligned}
use Rattle.layout.specs.declared.span.Span.{Span}
use Rattle.layout.proofs.Lists.{flat_map-append}
use Rattle.table.specs.Rows.{spans_by, spans_of}
use Rattle.table.specs.declared.row.Row.{Row}
use Rattle.format.specs.Encoding.{content_entry, name_entry, pair_entry, stored_bytes, encode_section}
use Rattle.format.specs.Promises.{Ascend, SideZero, WireOrder}
use Rattle.format.specs.Sections.{Section, plain, packed, names, arguments, unknown}
use Rattle.format.specs.WellFormed.{All}
use Rattle.format.proofs.Encoding.{length-content_entry, length-name_entry, length-pair_entry}
use Rattle.format.proofs.PayloadStands.{payload-stands}
use Rattle.format.proofs.PlacedRows.{content_placed, name_placed, pair_placed, rows_of_run, rows_of_section, rows_from}
use Rattle.format.proofs.RowsByTag.{all_append}
use Rattle.format.proofs.SectionBytes.{start, filled, length-section}

-- ---- side 0

abbrev Zero : Row → Type 0
Zero r = r.side ≡ 0

run-zero : {A : Type 0} (bytes : A → List ℕ) (row_at : ℕ → A → Row) → ((at : ℕ) (a : A) → Zero (row_at at a)) → (items : List A) (at : ℕ) → All Zero (rows_of_run bytes row_at at items)
unfolding rows_of_run
run-zero bytes row_at item [] at = tt
run-zero bytes row_at item (a ∷ items) at = (item at a, run-zero bytes row_at item items (at + length (bytes a)))

section-zero : (at : ℕ) (s : Section) → All Zero (rows_of_section at s)
unfolding rows_of_section
section-zero at (plain header texts) = (refl, run-zero content_entry content_placed (λ at text. refl) texts (at + 28))
section-zero at (packed header stream count uncompressed) = (refl, tt)
section-zero at (names ns) = (refl, run-zero name_entry name_placed (λ at x. refl) ns (at + 18))
section-zero at (arguments xs) = (refl, run-zero pair_entry pair_placed (λ at x. refl) xs (at + 20))
section-zero at (unknown kind bytes) = (refl, tt)

sections-zero : (ss : List Section) (at : ℕ) → All Zero (rows_from at ss)
unfolding rows_from
sections-zero [] at = tt
sections-zero (s ∷ ss) at = all_append Zero (rows_of_section at s) _ (section-zero at s) (sections-zero ss (at + length (encode_section s)))

pub side-zero : SideZero
side-zero p rows bytes e =
    let all = payload-stands p bytes rows e in
    rw all.rows (sections-zero all.sections 8)

-- ---- wire order

-- spans that ascend between two places ascend between two that are farther apart
wider : (spans : List Span) (at end from to : ℕ) → from ≤ at → end ≤ to → Ascend at end spans → Ascend from to spans
wider [] at end from to h k ascend = omega arith
wider (s ∷ spans) at end from to h k (first, rest) = (omega arith, wider spans _ end _ to (omega arith) k rest)

-- and one after the other
both-ascend : (a b : List Span) (at next end : ℕ) → Ascend at next a → Ascend next end b → Ascend at end (a ++ b)
both-ascend [] b at next end h k = wider b next end at end h (omega arith) k
both-ascend (s ∷ a) b at next end (first, rest) k = (first, both-ascend a b _ next end rest k)

-- the spans of an item's row lie within its bytes
abbrev Within : {A : Type 0} → (A → List ℕ) → (ℕ → A → Row) → Type 0
Within {A} bytes row_at = (at : ℕ) (a : A) → Ascend at (at + length (bytes a)) (spans_of (row_at at a))

content-within : Within content_entry content_placed
unfolding spans_by
content-within at text = omega (arith, length-content_entry text, le-aligned (12 + wire_size (length text)))

name-within : Within name_entry name_placed
unfolding spans_by
name-within at x = omega (arith, length-name_entry x, le-aligned (16 + wire_size (length x.text)))

pair-within : Within pair_entry pair_placed
unfolding spans_by
pair-within at x = omega (arith, length-pair_entry x)

run-within :
    {A : Type 0} (bytes : A → List ℕ) (row_at : ℕ → A → Row) →
    Within bytes row_at →
    (items : List A) (at : ℕ) →
    Ascend at (at + length (flat_map bytes items)) (flat_map spans_of (rows_of_run bytes row_at at items))
unfolding flat_map rows_of_run
run-within bytes row_at item [] at = omega arith
run-within bytes row_at item (a ∷ items) at =
    let next : ℕ = at + length (bytes a) in
    let end : at + length (bytes a ++ flat_map bytes items) ≡ next + length (flat_map bytes items) = omega (arith, length-append (bytes a) (flat_map bytes items)) in
    rw end (both-ascend (spans_of (row_at at a)) (flat_map spans_of (rows_of_run bytes row_at next items)) at next _ (item at a) (run-within bytes row_at item items next))

-- items that are a section's stored bytes
stored-within :
    {A : Type 0} (s : Section) (at : ℕ) (bytes : A → List ℕ) (row_at : ℕ → A → Row) →
    Within bytes row_at →
    (items : List A) →
    stored_bytes s ≡ flat_map bytes items →
    Ascend at (at + length (encode_section s)) (flat_map spans_of (rows_of_run bytes row_at (at + start s) items))
stored-within s at bytes row_at item items is =
    let end : ℕ = at + start s + length (flat_map bytes items) in
    let ends : end ≤ at + length (encode_section s) = omega (arith, length-section s, le-aligned (filled s), ap length is) in
    wider (flat_map spans_of (rows_of_run bytes row_at (at + start s) items)) (at + start s) end at (at + length (encode_section s)) (omega arith) ends (run-within bytes row_at item items (at + start s))

section-within : (s : Section) (at : ℕ) → Ascend at (at + length (encode_section s)) (flat_map spans_of (rows_of_section at s))
unfolding flat_map rows_of_section spans_by stored_bytes
section-within (plain header texts) at = stored-within (plain header texts) at content_entry content_placed content-within texts refl
section-within (packed header stream count uncompressed) at =
    let s : Section = packed header stream count uncompressed in
    omega (arith, length-section s, le-aligned (filled s))
section-within (names ns) at = stored-within (names ns) at name_entry name_placed name-within ns refl
section-within (arguments xs) at = stored-within (arguments xs) at pair_entry pair_placed pair-within xs refl
section-within (unknown kind bytes) at =
    let s : Section = unknown kind bytes in
    omega (arith, length-section s, le-aligned (filled s))

sections-within : (ss : List Section) (at : ℕ) → Ascend at (at + length (flat_map encode_section ss)) (flat_map spans_of (rows_from at ss))
unfolding flat_map rows_from
sections-within [] at = omega arith
sections-within (s ∷ ss) at =
    let next : ℕ = at + length (encode_section s) in
    let end : at + length (encode_section s ++ flat_map encode_section ss) ≡ next + length (flat_map encode_section ss) = omega (arith, length-append (encode_section s) (flat_map encode_section ss)) in
    rw (flat_map-append, end) (both-ascend (flat_map spans_of (rows_of_section at s)) (flat_map spans_of (rows_from next ss)) at next _ (section-within s at) (sections-within ss next))

pub wire-order : WireOrder
wire-order p rows bytes e =
    let all = payload-stands p bytes rows e in
    rw (all.rows, ← all.ends) (sections-within all.sections 8)
