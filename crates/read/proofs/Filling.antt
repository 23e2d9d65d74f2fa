-- The rows of a section in the second pass: its own, and those of what it holds.
-- Assumes nothing.
use Prim.Native.Nat.{ℕ, ◌+◌, ◌-◌, ◌≤◌}
use denote.Param.Members.{Mut}
use mathlib.Core.List.{List, ◌∷◌, map}
use mathlib.Core.Path.{◌≡◌, refl, ap}
use native.Mathlib.Omega.{arith}
use lib.ListN.{length}
use Rattle.std.specs.Fn.{Called}
use Rattle.std.specs.Iterator.{Drains, YieldsFirstBy}
use Rattle.std.specs.Iterator.Adapters.{map_source, map_callee}
use Rattle.std.proofs.lemmas.Iterator.{maps, YieldsList-from_map}
use Rattle.std.proofs.lemmas.Iterator.Consumers.{YieldsList-from_first}
use Rattle.std.proofs.lemmas.List.{length-map}
use Rattle.wire.specs.Number.{u32_at}
use Rattle.layout.specs.declared.section_type.SourceInfoSectionType.{SourceInfoSectionType}
use Rattle.table.specs.Rows.{store_row, plain_row, names_row, arguments_row}
use Rattle.table.specs.declared.row.Row.{Row}
use Rattle.format.specs.Encoding.{limit}
use Rattle.format.specs.Walk.{content_at, name_at, walk_contents, walk_section}
use Rattle.accepted.proofs.Given.{all-items}
use Rattle.accepted.proofs.Entered.{rows-entered, rows-paired}
use Rattle.accepted.specs.Body.{Holds}
use Rattle.accepted.specs.Entries.{Placed}
use Rattle.accepted.specs.declared.body.Body.TheVariants as body
use Rattle.read.specs.Store.{content_of, name_of, pair_of, store_rows}

-- ---- a section: its own row, and those of what it holds

module _ (p : List ℕ) (kind : SourceInfoSectionType) (at : ℕ) where
  pub contents-walked : (entries : List Placed) → Holds p kind at (body.Contents entries) → walk_section p kind at ≡ plain_row (u32_at p (at + 8)) ∷ map content_of entries
  unfolding walk_section walk_contents
  contents-walked entries (is, plain, all) = rw (is, plain, all) (ap (λ (rows : List Row). plain_row (u32_at p (at + 8)) ∷ rows) (rows-entered p content_at (u32_at p (at + 24)) (at + 28)))

  pub names-walked : (entries : List Placed) → Holds p kind at (body.Names entries) → walk_section p kind at ≡ names_row ∷ map name_of entries
  unfolding walk_section
  names-walked entries (is, all) = rw (is, all) (ap (λ (rows : List Row). names_row ∷ rows) (rows-entered p name_at (u32_at p (at + 12)) (at + 18)))

  pub pairs-walked : (pairs : List Placed) → Holds p kind at (body.Arguments pairs) → walk_section p kind at ≡ arguments_row ∷ map pair_of pairs
  unfolding walk_section
  pairs-walked pairs (is, all) = rw (is, all) (ap (λ (rows : List Row). arguments_row ∷ rows) (rows-paired p (u32_at p (at + 16)) (at + 20)))

-- `there` is the place after the section's own row, and `found` iterates over the rows of what it holds
module _ (row : Placed → Row) (items : List Placed) (index : ℕ) {head : Row} {all : List Row} {next : ℕ} (is : all ≡ head ∷ map row items) (there : next ≡ index + 1) where
  long : length all ≡ 1 + length items
  long = omega (arith, ap length is, length-map items row)

  pub rest-fits : {source : List Placed} → source ≡ items → index + length all ≤ limit → length source ≤ limit - next
  rest-fits source h = omega (arith, there, long, ap length source, h)

  pub rest-filled :
      {A F : Type 0} {v : A → Placed} {g : Mut F (A × Unit {0}) Row} {found : _} {f : F} (before : List ℕ) {first after : List ℕ} {end : ℕ} →
      (given : List Row) × Drains (maps (YieldsFirstBy v (λ left. left)) g) found given × (end ≡ next + length given) × (after ≡ store_rows first next given) →
      map_source found ≡ items →
      map_callee found ≡ f →
      ((x : A) (r : Row) (q : F) → Called g f (x, tt) r q → (q ≡ f) × (r ≡ row (v x))) →
      first ≡ store_row before index head →
      (end ≡ index + length all) × (after ≡ store_rows before index all)
  unfolding store_rows
  rest-filled before (given, ran, ends, stored) source callee called own =
      let same = all-items given ran (YieldsList-from_map _ row (YieldsList-from_first _ (λ left. left) items source) callee called) in
      (omega (arith, there, ap length is, ap length same, ends), rw (stored, own, is, there, same) refl)
