-- An entry is good exactly where its bytes stand. Entries of names and of contents are one law: `middle` is what a header has between the
-- text's size and the text, which is nothing for a content and the content size for a name.
-- Assumes nothing.
use Rattle.std.specs.Prelude.{Ok}
use Prim.Native.Nat.{ℕ, ◌+◌, ◌≤◌}
use mathlib.Core.List.{List, [], ◌∷◌, ◌++◌}
use mathlib.Core.Path.{◌≡◌, refl, sym, ap, ◌∙◌}
use native.Mathlib.Omega.{arith}
use lib.ListN.{length, length-append, length-replicate}
use Rattle.wire.specs.Length.{wire_size}
use Rattle.wire.specs.Padding.{padding, aligned}
use Rattle.wire.proofs.NumberLaws.{length-bytes_of}
use Rattle.wire.proofs.PaddingLaws.{le-aligned}
use Rattle.layout.specs.Spans.{part}
use Rattle.format.specs.Encoding.{u32, padded, terminate, content_entry, name_entry, limit}
use Rattle.format.specs.Parse.{entry, after_entry}
use Rattle.format.specs.Sections.{Name}
use Rattle.format.specs.WellFormed.{Bytes, Text}
use Rattle.format.proofs.EntryLaws.{Entry, entry-good, entry_found}
use Rattle.format.proofs.TextsOk.{text-ok, ok-text}
use Rattle.format.proofs.Stands.{Stands, stands-first, stands-next, stands-join, part-stands, stands-part, length_part, nul-stands, stands-nul, zeros-stand, stands-zeros, number-stands, stands_after, stands-number}

-- the bytes of an entry before its padding, and with it
abbrev pub unpadded : ℕ → List ℕ → List ℕ → List ℕ
unpadded header middle text =
    let size : ℕ = wire_size (length text) in
    u32 (aligned (header + size)) ++ (u32 0 ++ (u32 size ++ (middle ++ terminate text)))

abbrev pub entry_bytes : ℕ → List ℕ → List ℕ → List ℕ
entry_bytes header middle text = padded (unpadded header middle text)

pub content-is : (text : List ℕ) → content_entry text ≡ entry_bytes 12 [] text
unfolding content_entry
content-is text = refl

pub name-is : (n : Name) → name_entry n ≡ entry_bytes 16 (u32 n.content_size) n.text
unfolding name_entry
name-is n = refl

pub name-header : (size : ℕ) → 16 ≡ 12 + length (u32 size)
name-header size = omega (arith, length-bytes_of 4 size)

module _ (header : ℕ) (middle : List ℕ) (sum : header ≡ 12 + length middle) where
  length-unpadded : (text : List ℕ) → length (unpadded header middle text) ≡ header + wire_size (length text)
  length-unpadded text = simp (length-append, length-bytes_of) (omega arith)

  pub length-entry : (text : List ℕ) → length (entry_bytes header middle text) ≡ aligned (header + wire_size (length text))
  unfolding aligned
  length-entry text = simp (length-append (unpadded header middle text), length-replicate, length-unpadded text)

  -- where the text of an entry stands
  pub entry-text : (p : List ℕ) (at : ℕ) (text : List ℕ) → Stands p at (entry_bytes header middle text) → Stands p (at + header) text
  entry-text p at text s =
      let s₁ = stands_after p 4 at (at + 4) _ _ refl (stands-first p at (unpadded header middle text) _ s) in
      let s₂ = stands_after p 4 (at + 4) (at + 8) _ _ (omega arith) s₁ in
      let s₃ = stands_after p 4 (at + 8) (at + 12) _ _ (omega arith) s₂ in
      stands-first p (at + header) text (0 ∷ []) (stands-next p (at + 12) middle (terminate text) (at + header) (omega arith) s₃)

  module _ (p : List ℕ) (at end : ℕ) (inside : end ≤ length p) (text : List ℕ) where
    abbrev n : ℕ
    n = length text

    -- a good entry whose middle stands in its header
    fields-stand :
        Bytes p →
        Stands p (at + 12) middle →
        Stands p (at + header) text →
        Entry header p at end n →
        Stands p at (entry_bytes header middle text)
    fields-stand bytes mid body g =
        let room : at + (header + wire_size n) ≤ end = omega (arith, g.within, le-aligned (header + wire_size n)) in
        let closed : Stands p (at + header) (terminate text) =
        stands-join p (at + header) text (0 ∷ []) (at + header + n) refl body (nul-stands p (at + header + n) (omega arith) g.closed) in
        let tail : Stands p (at + 12) (middle ++ terminate text) =
        stands-join p (at + 12) middle (terminate text) (at + header) (omega arith) mid closed in
        let fields : Stands p at (unpadded header middle text) =
        number-stands p 4 at (at + 4) _ _ refl bytes (omega arith) g.size
        (number-stands p 4 (at + 4) (at + 8) _ _ (omega arith) bytes (omega arith) g.flags
        (number-stands p 4 (at + 8) (at + 12) _ _ (omega arith) bytes (omega arith) g.text tail)) in
        let zeros = zeros-stand p (at + header + wire_size n) (padding (header + wire_size n)) (unfold aligned in omega (arith, g.within)) g.padded in
        stands-join p at (unpadded header middle text) _ (at + header + wire_size n) (omega (arith, length-unpadded text)) fields (rw (length-unpadded text) zeros)

    -- an entry's bytes, and what reading finds in them
    pub stands-fields :
        length p ≤ limit →
        Text text →
        at + aligned (header + wire_size n) ≤ end →
        Stands p at (entry_bytes header middle text) →
        Entry header p at end n × Stands p (at + 12) middle × Stands p (at + header) text
    stands-fields small ok within s =
        let whole : ℕ = aligned (header + wire_size n) in
        let top : header + wire_size n ≤ whole = le-aligned (header + wire_size n) in
        let after : at + header + wire_size n ≡ at + length (unpadded header middle text) = omega (arith, length-unpadded text) in
        let zeros = stands-next p at (unpadded header middle text) _ (at + header + wire_size n) after s in
        let (size, s₁) = stands-number p 4 at (at + 4) whole _ refl (omega arith) (stands-first p at (unpadded header middle text) _ s) in
        let (flags, s₂) = stands-number p 4 (at + 4) (at + 8) 0 _ (omega arith) (omega arith) s₁ in
        let (told, s₃) = stands-number p 4 (at + 8) (at + 12) (wire_size n) _ (omega arith) (omega arith) s₂ in
        let body = stands-next p (at + 12) middle (terminate text) (at + header) (omega arith) s₃ in
        let this = stands-first p (at + header) text (0 ∷ []) body in (
          record {
            within = within;
            flags = flags;
            text = told;
            size = size;
            checked = ok-text p (at + header) n text (stands-part p (at + header) text this) ok;
            closed = stands-nul p (at + header + n) (stands-next p (at + header) text (0 ∷ []) (at + header + n) refl body);
            padded = stands-zeros p (at + header + wire_size n) (padding (header + wire_size n)) (rw (length-unpadded text) at zeros);
          },
          stands-first p (at + 12) middle (terminate text) s₃,
          this,
        )

  -- so a good entry is the bytes of its text, and the bytes of a text make a good entry; both tell where it ends
  module _ (p : List ℕ) (at end : ℕ) (inside : end ≤ length p) where
    pub entry-stands :
        Bytes p →
        Stands p (at + 12) middle →
        (n : ℕ) →
        entry header p at end ≡ Ok n →
        (let text : List ℕ = part p (at + header) n in
        Stands p at (entry_bytes header middle text)
        × Text text
        × (length text ≡ n)
        × (after_entry header at n ≡ at + length (entry_bytes header middle text)))
    entry-stands bytes mid n e =
        let g = entry-good header p at end n e in
        let text : List ℕ = part p (at + header) n in
        let room : at + header + n ≤ length p = omega (arith, g.within, le-aligned (header + wire_size n)) in
        let size : length text ≡ n = length_part p (at + header) n room in (
          fields-stand p at end inside text bytes mid (part-stands p (at + header) n room) (rw size g),
          text-ok p (at + header) n g.checked,
          size,
          ap (λ (k : ℕ). at + k) (sym (length-entry text ∙ ap (λ (k : ℕ). aligned (header + wire_size k)) size)),
        )

    pub stands-entry :
        length p ≤ limit →
        (text : List ℕ) →
        Text text →
        at + length (entry_bytes header middle text) ≤ end →
        Stands p at (entry_bytes header middle text) →
        (entry header p at end ≡ Ok (length text))
        × Stands p (at + 12) middle
        × (after_entry header at (length text) ≡ at + length (entry_bytes header middle text))
    stands-entry small text ok within s =
        let size = length-entry text in
        let (g, mid, this) = stands-fields p at end inside text small ok (omega arith) s in
        (entry_found header p at end (length text) g, mid, ap (λ (k : ℕ). at + k) (sym size))
