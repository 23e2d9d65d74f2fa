-- Entries: the bytes that records of a tag are written as, those that stand at the start of some records, and what follows them.
use Rattle.std.specs.Prelude.{ℕ, true, false, Option, Some}
use mathlib.Core.List.{List, [], ◌∷◌, flat_map}
use Rattle.table.specs.Tags.{same_tag}
use Rattle.table.specs.declared.tag.Tag.{Tag}
use Rattle.table.specs.declared.tag.Tag.TheVariants as tag
use Rattle.format.specs.Encoding.{content_entry, name_entry, pair_entry}
use Rattle.format.specs.Records.{Record, text, name_of, pair_of, leading}

-- the entry that a record of a tag is; a section's own is none
unfoldable pub entry_bytes : Tag → Record → List ℕ
entry_bytes tag.PlainContents r = []
entry_bytes tag.PackedContents r = []
entry_bytes tag.Names r = []
entry_bytes tag.Arguments r = []
entry_bytes tag.Unknown r = []
entry_bytes tag.Content r = content_entry (text 0 r)
entry_bytes tag.Name r = name_entry (name_of r)
entry_bytes tag.Pair r = pair_entry (pair_of r)

-- the records of a tag that stand at the start; of no tag there are none
abbrev pub run : Option Tag → List Record → List Record
run t rs = leading t (λ (r : Record). r) rs

-- as entries
unfoldable pub run_bytes : Option Tag → List Record → List ℕ
run_bytes t rs = flat_map (λ (r : Record). entry_bytes r.tag r) (run t rs)

-- the records after them
unfoldable pub past : Option Tag → List Record → List Record
past t [] = []
past t (r ∷ rs) = elim (same_tag (Some r.tag) t) [ true ↦ past t rs | false ↦ r ∷ rs ]
