-- A frame around the text of an entry is the entry. Entries of contents and of names are one law: `middle` is what a header has between the text's
-- size and the text, which is nothing for a content and the content size for a name.
-- Assumes nothing.
use Prim.Native.Nat.{ℕ, suc, ◌+◌, ◌-◌}
use mathlib.Core.List.{List, [], ◌++◌, append_assoc}
use mathlib.Core.Path.{◌≡◌, refl, sym, ap, ◌∙◌}
use native.Mathlib.Omega.{arith}
use lib.ListN.{length, replicate, length-append}
use lib.Seq.{sets}
use Rattle.wire.specs.Length.{wire_size}
use Rattle.wire.specs.Padding.{padding, aligned}
use Rattle.wire.proofs.NumberLaws.{length-bytes_of}
use Rattle.wire.proofs.Sets.{sets-before, sets-joined}
use Rattle.format.specs.Encoding.{u32, content_entry, name_entry}
use Rattle.format.specs.Sections.{Name}
use Rattle.format.proofs.EntryBytes.{unpadded, entry_bytes, content-is, name-is, name-header, length-entry}
use Rattle.frames.specs.Frame.{entry_framed}

-- an entry at a place, up to the end of its text
module _ (header : ℕ) (middle : List ℕ) (sum : header ≡ 12 + length middle) (text : List ℕ) (at : ℕ) {end : ℕ} (e : end ≡ at + header + length text) where
  size : end - at + 1 ≡ header + wire_size (length text)
  size = omega arith

  pub entry-size : aligned (end - at + 1) ≡ length (entry_bytes header middle text)
  entry-size = ap aligned size ∙ sym (length-entry header middle sum text)

  -- its text, what is between, and then the frame around them
  pub entry_closed : (l : List ℕ) → entry_framed (sets (sets l (at + header) text) (at + 12) middle) at header end ≡ sets l at (entry_bytes header middle text)
  unfolding entry_framed
  entry_closed l =
      let wire : ℕ = wire_size (length text) in
      let many : end - (at + header) + 1 ≡ wire = omega arith in
      let start : List ℕ = u32 (aligned (header + wire)) ++ (u32 0 ++ u32 wire) in
      let twelve : length start ≡ 12 = simp (length-append, length-bytes_of) in
      let inner = length-append middle text in
      let all = length-append start (middle ++ text) in
      let unpadded-size : length (unpadded header middle text) ≡ header + wire = simp (length-append, length-bytes_of) (omega arith) in
      let one : 1 + padding (header + wire) ≡ suc (padding (header + wire)) = omega arith in
      let zeros : List ℕ = replicate (1 + padding (header + wire)) 0 in
      let whole : (start ++ (middle ++ text)) ++ zeros ≡ entry_bytes header middle text = rw (unpadded-size, one) (simp append_assoc) in
      rw (size, many)
      (ap (λ (t : List ℕ). sets (sets t at start) end zeros) (sets-before middle text l (at + 12) (at + header) (omega arith)) ∙
      ap (λ (t : List ℕ). sets t end zeros) (sets-before start (middle ++ text) l at (at + 12) (omega arith)) ∙
      sets-joined (start ++ (middle ++ text)) zeros l at end (omega arith) ∙
      ap (sets l at) whole)

module _ (l : List ℕ) (at : ℕ) {end : ℕ} where
  pub content-closed : (text : List ℕ) → end ≡ at + 12 + length text → entry_framed (sets l (at + 12) text) at 12 end ≡ sets l at (content_entry text)
  content-closed text e = entry_closed 12 [] refl text at e l ∙ ap (sets l at) (sym (content-is text))

  pub name-closed :
      (n : Name) →
      end ≡ at + 16 + length n.text →
      entry_framed (sets (sets l (at + 16) n.text) (at + 12) (u32 n.content_size)) at 16 end ≡ sets l at (name_entry n)
  name-closed n e = entry_closed 16 (u32 n.content_size) (name-header n.content_size) n.text at e l ∙ ap (sets l at) (sym (name-is n))
