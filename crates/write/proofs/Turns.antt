-- The sections that are stored turn by turn: what holds before a turn of where the position stands, of how many sections are stored and of the output. It holds at first and
-- after each turn, and where no row is left it says the whole.
-- Assumes nothing.
use Rattle.std.specs.Prelude.{is_ok, Option}
use Prim.Native.Nat.{ℕ, ◌+◌, ◌≤◌, ◌<◌, ◌^◌}
use mathlib.Core.Bool.{true}
use mathlib.Core.List.{List, [], flat_map}
use mathlib.Core.Path.{◌≡◌, refl, sym, ap, ◌∙◌}
use native.Mathlib.Omega.{arith}
use lib.ListN.{length, get_or, drop, drop_of_length-le}
use lib.Seq.{sets, length-sets}
use Rattle.table.specs.Rows.{no_row}
use Rattle.table.specs.Tags.{tag_of, opens_section}
use Rattle.table.specs.declared.row.Row.{Row}
use Rattle.table.specs.declared.tag.Tag.{Tag}
use Rattle.format.specs.Encoding.{encode_section}
use Rattle.format.specs.Resolve.{sections_of}
use Rattle.format.specs.Sections.{Section}
use Rattle.format.specs.Write.{written}
use Rattle.write.specs.Position.{standing, Writable, past, section_bytes}
use Rattle.write.specs.declared.position.Position.{Position}
use Rattle.write.proofs.SectionLaws.{Left, Next, next-section, next-stored, all_left}

module _ (payload edit : List ℕ) (rows : List Row) (output₀ : List ℕ) where
  -- the sections of the rows from an index on
  abbrev from : ℕ → List Section
  from index = sections_of payload edit (drop index rows)

  -- what is left to store, stored where it goes, makes the output what it is to be; its sections follow the rules and the limits
  pub record Turn (h : Position) (sections : ℕ) (output : List ℕ) : Type 0 where
    pub left : Left payload edit rows h.index h.at
    pub counted : sections + length (from h.index) ≡ length (from 0)
    pub few : length (from 0) ≤ 65535
    pub stored : sets output h.at (flat_map encode_section (from h.index)) ≡ sets output₀ 8 (flat_map encode_section (from 0))
    pub same : length output ≡ length output₀

  pub first-turn : is_ok (written payload edit rows) ≡ true → Turn (standing 0 8) 0 output₀
  first-turn good =
      let (left, few, small) = all_left payload edit rows good in
      record { left = left; counted = omega arith; few = few; stored = refl; same = refl }

  module _ {h : Position} {sections : ℕ} {output : List ℕ} (t : Turn h sections output) where
    module _ (inside : h.index < length rows) where
      next : Next payload edit rows h.index h.at
      next = next-section payload edit rows h.index h.at inside t.left

      -- a section can be written, of the tag that its row has
      abbrev tag : Option Tag
      tag = tag_of (get_or rows h.index no_row).tag

      pub writable : (opens_section tag ≡ true) × Writable payload edit rows tag h
      writable = (next.begins, (inside, refl, next.kind, next.fit, next.small))

      -- it is counted, and fewer rows are left
      pub more-fits : sections + 1 < 2 ^ 16
      more-fits = omega (arith, t.counted, t.few, ap length next.sections)

      pub next-turn : (h' : Position) (output' : List ℕ) → h' ≡ past payload edit rows h → output' ≡ sets output h.at (section_bytes payload edit rows h) → Turn h' (sections + 1) output'
      next-turn h' output' e f = rw (e, f) record {
        left = next.left;
        counted = omega (arith, t.counted, ap length next.sections);
        few = t.few;
        stored = next-stored payload edit rows h.index h.at next output _ t.stored;
        same = length-sets output h.at (section_bytes payload edit rows h) ∙ t.same;
      }

    -- no row is left: the sections are counted, and stored
    pub all-stored : length rows ≤ h.index → (sections ≡ length (from 0)) × (output ≡ sets output₀ 8 (flat_map encode_section (from 0)))
    unfolding sections_of flat_map
    all-stored ended =
        let none : from h.index ≡ [] = ap (λ (r : List Row). sections_of payload edit r) (drop_of_length-le rows {i = h.index} ended) in (
          omega (arith, t.counted, ap length none),
          sym (ap (λ (ss : List Section). sets output h.at (flat_map encode_section ss)) none) ∙ t.stored,
        )
