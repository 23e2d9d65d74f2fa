-- Names, entry by entry: an entry that is good has a header of 16 bytes and ends within the entries, and takes as many bytes in the copy.
-- Assumes nothing.
use Rattle.std.specs.Prelude.{Ok}
use Prim.Native.Nat.{ℕ, zero, suc, ◌+◌, ◌-◌, ◌≤◌}
use mathlib.Core.List.{List, ◌++◌, append_assoc}
use mathlib.Core.Path.{◌≡◌, refl, sym, ap, ◌∙◌}
use native.Mathlib.Omega.{arith}
use lib.ListN.{length, drop, length-append}
use lib.Seq.{sets, take-add, drop-drop}
use Rattle.wire.specs.Length.{wire_size}
use Rattle.wire.specs.Number.{u16_at, u32_at}
use Rattle.wire.proofs.NumberLaws.{length-bytes_of}
use Rattle.wire.proofs.PaddingLaws.{le-aligned}
use Rattle.wire.proofs.Sets.{sets-joined, sets-inside}
use Rattle.layout.specs.Spans.{part}
use Rattle.table.specs.declared.row.Row.{Row}
use Rattle.format.specs.CopyWalk.{name_copy, name_copies, names_copy}
use Rattle.format.specs.Encoding.{u32}
use Rattle.format.specs.Parse.{entries, name_row_at}
use Rattle.format.proofs.EntryLaws.{entry-good, entries_none, entries-first}
use Rattle.format.proofs.Stands.{length_part}
use Rattle.format.specs.Walk.{places_from}
use Rattle.accepted.specs.Entries.{entries_from}
use Rattle.public_copy.specs.Hidden.{span, hidden}

module _ (p : List ℕ) where
  -- a part, and the part after it
  part-add : (at n m : ℕ) → part p at (n + m) ≡ part p at n ++ part p (at + n) m
  part-add at n m = take-add n m (drop at p) ∙ rw drop-drop

  -- an entry's bytes and those after it, with another content size
  module _ (at size : ℕ) (least : 16 ≤ size) (within : at + size ≤ length p) (is : u32_at p at ≡ size) where
    pub name-stored : (tail l : List ℕ) (to j : ℕ) → j ≡ to + 12 → sets (sets l to (part p at size ++ tail)) j (u32 1) ≡ sets l to (name_copy p at ++ tail)
    name-stored tail l to j e =
        let rest : ℕ = size - 16 in
        let four : length (part p (at + 12) 4) ≡ 4 = length_part p (at + 12) 4 (omega arith) in
        let twelve : length (part p at 12) ≡ 12 = length_part p at 12 (omega arith) in
        let sum : 12 + (4 + rest) ≡ size = omega arith in
        let there : at + 12 + 4 ≡ at + 16 = omega arith in
        let split : part p at size ≡ part p at 12 ++ (part p (at + 12) 4 ++ part p (at + 16) rest) =
        ap (part p at) (sym sum) ∙ part-add at 12 (4 + rest) ∙ ap (λ (l : List ℕ). part p at 12 ++ l) (part-add (at + 12) 4 rest ∙ rw there) in
        let before : part p at size ++ tail ≡ part p at 12 ++ (part p (at + 12) 4 ++ (part p (at + 16) rest ++ tail)) = rw split (simp append_assoc) in
        let after : part p at 12 ++ (u32 1 ++ (part p (at + 16) rest ++ tail)) ≡ name_copy p at ++ tail = rw is (simp append_assoc) in
        rw (before, ← after)
        (sets-inside (part p at 12) (part p (at + 12) 4) (part p (at + 16) rest ++ tail) (u32 1) l to j (omega (arith, length-bytes_of 4 1)) (omega arith))

    pub name-long : length (name_copy p at) ≡ size
    name-long =
        let last : length (part p (at + 16) (size - 16)) ≡ size - 16 = length_part p (at + 16) (size - 16) (omega arith) in
        rw is (simp (length-append, length-bytes_of) (omega (arith, length_part p at 12 (omega arith))))

  -- ---- a run of entries up to an end

  module _ (end : ℕ) (inside : end ≤ length p) where
    -- the first of them, and those after it
    pub record First (count at : ℕ) : Type 0 where
      pub least : 16 ≤ u32_at p at
      pub within : at + u32_at p at ≤ end
      pub rest : List Row
      pub others : entries 16 (name_row_at p) count p (at + u32_at p at) end ≡ Ok rest

    pub first_entry : (count at : ℕ) (rs : List Row) → entries 16 (name_row_at p) (suc count) p at end ≡ Ok rs → First count at
    first_entry count at rs e =
        let (n, rest, first, others, same) = entries-first 16 p end (name_row_at p) count at rs e in
        let told = entry-good 16 p at end n first in
        record {
          least = omega (arith, told.size, le-aligned (16 + wire_size n));
          within = omega (arith, told.size, told.within);
          rest = rest;
          others = ap (λ (k : ℕ). entries 16 (name_row_at p) count p (at + k) end) told.size ∙ others;
        }

    pub names-long : (count at : ℕ) (rs : List Row) → entries 16 (name_row_at p) count p at end ≡ Ok rs → at + length (name_copies p count at) ≡ end
    unfolding name_copies
    names-long zero at rs e = omega (arith, (entries_none 16 p end (name_row_at p) at rs e).0)
    names-long (suc count) at rs e =
        let first = first_entry count at rs e in
        let long = name-long at (u32_at p at) first.least (omega (arith, first.within)) refl in
        let others = names-long count (at + u32_at p at) first.rest first.others in
        omega (arith, length-append (name_copy p at) (name_copies p count (at + u32_at p at)))

    -- they are hidden where they stand, whatever comes after them
    names-hidden :
        (count at : ℕ) (rs : List Row) → entries 16 (name_row_at p) count p at end ≡ Ok rs →
        (tail l : List ℕ) (to : ℕ) → hidden (sets l to (part p at (end - at) ++ tail)) to (entries_from p count at) ≡ sets l to (name_copies p count at ++ tail)
    unfolding hidden entries_from places_from name_copies
    names-hidden zero at rs e tail l to =
        let none : end - at ≡ 0 = omega (arith, (entries_none 16 p end (name_row_at p) at rs e).0) in
        ap (λ n. sets l to (part p at n ++ tail)) none
    names-hidden (suc count) at rs e tail l to =
        let size : ℕ = u32_at p at in
        let first = first_entry count at rs e in
        let long = name-long at size first.least (omega (arith, first.within)) refl in
        let sum : end - at ≡ size + (end - (at + size)) = omega (arith, first.within) in
        let after : List ℕ = part p (at + size) (end - (at + size)) ++ tail in
        let here : part p at (end - at) ++ tail ≡ part p at size ++ after = ap (λ n. part p at n ++ tail) sum ∙ rw (part-add at size (end - (at + size))) (append_assoc (part p at size) (part p (at + size) (end - (at + size))) tail) in
        let one = name-stored at size first.least (omega (arith, first.within)) refl after l to (to + 12) refl in
        let next : to + size ≡ to + length (name_copy p at) = omega (arith, long) in
        let rest : List ℕ = name_copies p count (at + size) in
        ap (λ o. hidden (sets o (to + 12) (u32 1)) (to + size) (entries_from p count (at + size))) (ap (sets l to) here) ∙
        ap (λ o. hidden o (to + size) (entries_from p count (at + size))) (one ∙ sym (sets-joined (name_copy p at) after l to (to + size) next)) ∙
        names-hidden count (at + size) first.rest first.others tail (sets l to (name_copy p at)) (to + size) ∙
        sets-joined (name_copy p at) (rest ++ tail) l to (to + size) next ∙
        ap (sets l to) (sym (append_assoc (name_copy p at) rest tail))

    names-span : (count at : ℕ) (rs : List Row) → entries 16 (name_row_at p) count p at end ≡ Ok rs → at + span (entries_from p count at) ≡ end
    unfolding span entries_from places_from
    names-span zero at rs e = omega (arith, (entries_none 16 p end (name_row_at p) at rs e).0)
    names-span (suc count) at rs e =
        let first = first_entry count at rs e in
        omega (arith, names-span count (at + u32_at p at) first.rest first.others)

  -- ---- a names section: its headers, the copies of its entries, and what stands after them

  module _
      (at : ℕ)
      (within : at + u32_at p at ≤ length p)
      (least : 18 + u16_at p (at + 16) ≤ u32_at p at)
      (rest : List Row)
      (found : entries 16 (name_row_at p) (u32_at p (at + 12)) p (at + 18) (at + 18 + u16_at p (at + 16)) ≡ Ok rest)
    where
      abbrev held : ℕ
      held = u16_at p (at + 16)

      abbrev after : List ℕ
      after = part p (at + 18 + held) (u32_at p at - (18 + held))

      abbrev copies : List ℕ
      copies = name_copies p (u32_at p (at + 12)) (at + 18)

      headers-long : length (part p at 18) ≡ 18
      headers-long = length_part p at 18 (omega arith)

      copies-long : length copies ≡ held
      copies-long = omega (arith, names-long (at + 18 + held) (omega arith) (u32_at p (at + 12)) (at + 18) rest found)

      pub section-long : length (names_copy p at) ≡ u32_at p at
      unfolding names_copy
      section-long =
          let last : length after ≡ u32_at p at - (18 + held) = length_part p (at + 18 + held) _ (omega arith) in
          omega (arith, length-append (part p at 18) (copies ++ after), length-append copies after, headers-long, copies-long)

      -- its bytes are copied, and then its sizes are hidden
      pub section-hidden : (l : List ℕ) (to : ℕ) → hidden (sets l to (part p at (u32_at p at))) (to + 18) (entries_from p (u32_at p (at + 12)) (at + 18)) ≡ sets l to (names_copy p at)
      unfolding names_copy
      section-hidden l to =
          let sum : u32_at p at ≡ 18 + (held + (u32_at p at - (18 + held))) = omega (arith, least) in
          let many : at + 18 + held - (at + 18) ≡ held = omega arith in
          let split : part p at (u32_at p at) ≡ part p at 18 ++ (part p (at + 18) held ++ after) = ap (part p at) sum ∙ part-add at 18 (held + (u32_at p at - (18 + held))) ∙ ap (λ (l : List ℕ). part p at 18 ++ l) (part-add (at + 18) held (u32_at p at - (18 + held))) in
          let next : to + 18 ≡ to + length (part p at 18) = omega (arith, headers-long) in
          let names = rw many at (names-hidden (at + 18 + held) (omega (arith, least, within)) (u32_at p (at + 12)) (at + 18) rest found after (sets l to (part p at 18)) (to + 18)) in
          ap (λ o. hidden o (to + 18) (entries_from p (u32_at p (at + 12)) (at + 18))) (ap (sets l to) split ∙ sym (sets-joined (part p at 18) (part p (at + 18) held ++ after) l to (to + 18) next)) ∙
          names ∙
          sets-joined (part p at 18) (copies ++ after) l to (to + 18) next

      -- the entries stand within it
      pub section-span : 18 + span (entries_from p (u32_at p (at + 12)) (at + 18)) ≤ u32_at p at
      section-span = omega (arith, least, names-span (at + 18 + held) (omega (arith, least, within)) (u32_at p (at + 12)) (at + 18) rest found)
