-- The entries, as they are stored: the text, and then what stands around it.
-- Assumes nothing.
use Prim.Native.Nat.{ℕ, ◌+◌, ◌-◌}
use mathlib.Core.List.{List, [], ◌∷◌}
use mathlib.Core.Path.{◌≡◌, refl, sym, ap, ◌∙◌}
use native.Mathlib.Omega.{arith}
use lib.ListN.{length, length-append}
use lib.Seq.{sets}
use Rattle.wire.specs.Length.{wire_size}
use Rattle.wire.specs.Padding.{padding, aligned}
use Rattle.wire.proofs.Sets.{sets-joined}
use Rattle.format.specs.Encoding.{u32, terminate, content_entry, name_entry, pair_entry}
use Rattle.format.proofs.Encoding.{length-content_entry, length-name_entry, length-pair_entry}
use Rattle.format.proofs.EntryBytes.{content-is, name-is, name-header}
use Rattle.frames.specs.Entry.{name, pair}
use Rattle.frames.specs.Frame.{entry_framed}
use Rattle.frames.proofs.EntryClosed.{entry-size, content-closed, name-closed}

-- a content, whose text ends at a place
module _ (text : List ℕ) where
  pub content-length : length (content_entry text) ≡ 12 + wire_size (length text) + padding (12 + wire_size (length text))
  unfolding aligned
  content-length = length-content_entry text

module _ (at : ℕ) (text : List ℕ) where
  pub content-size : aligned (at + 12 + length text - at + 1) ≡ length (content_entry text)
  content-size = entry-size 12 [] refl text at refl ∙ ap length (sym (content-is text))

  pub content-stored : (l : List ℕ) → entry_framed (sets l (at + 12) text) at 12 (at + 12 + length text) ≡ sets l at (content_entry text)
  content-stored l = content-closed l at text refl

-- a name
module _ (text : List ℕ) (size : ℕ) where
  pub name-length : length (name_entry (name text size)) ≡ 16 + wire_size (length text) + padding (16 + wire_size (length text))
  unfolding aligned
  name-length = length-name_entry (name text size)

module _ (at : ℕ) (text : List ℕ) (size : ℕ) where
  pub name-size : aligned (at + 16 + length text - at + 1) ≡ length (name_entry (name text size))
  name-size = entry-size 16 (u32 size) (name-header size) text at refl ∙ ap length (sym (name-is (name text size)))

  pub name-stored :
      (l : List ℕ) → entry_framed (sets (sets l (at + 16) text) (at + 12) (u32 size)) at 16 (at + 16 + length text) ≡ sets l at (name_entry (name text size))
  name-stored l = name-closed l at (name text size) refl

-- a text with its NUL
pub text_stored : (l : List ℕ) (at : ℕ) (text : List ℕ) → sets (sets l at text) (at + length text) (0 ∷ []) ≡ sets l at (terminate text)
text_stored l at text = sets-joined text (0 ∷ []) l at (at + length text) refl

-- a pair: one such text, and another after it
module _ (at : ℕ) (key value : List ℕ) where
  pub pair-size : length (pair_entry (pair key value)) ≡ wire_size (length key) + wire_size (length value)
  pair-size = length-pair_entry (pair key value)

  pub pair-stored :
      (l : List ℕ) → sets (sets l at (terminate key)) (at + wire_size (length key)) (terminate value) ≡ sets l at (pair_entry (pair key value))
  unfolding pair_entry
  pair-stored l = sets-joined (terminate key) (terminate value) l at (at + wire_size (length key)) (omega (arith, length-append key (0 ∷ [])))

pub ruleset contents = (content-length, content-size, content-stored)

pub ruleset names = (name-length, name-size, name-stored)

pub ruleset pairs = (pair-size, pair-stored)
