-- The rows of a tag that stand at the start of some rows: the entries that they are and how many they are, whatever they are read as, and row by row.
-- Assumes nothing.
use Rattle.std.specs.Prelude.{Some}
use Prim.Native.Nat.{ℕ, ◌+◌}
use mathlib.Core.Bool.{true, false}
use mathlib.Core.List.{List, [], ◌∷◌, ◌++◌, flat_map}
use mathlib.Core.Path.{◌≡◌, refl}
use native.Mathlib.Omega.{arith}
use lib.ListN.{length, length-append}
use Rattle.table.proofs.Rows.{next-row, no-row}
use Rattle.wire.proofs.Sets.{sets-append}
use Rattle.table.specs.Tags.{tag_of, same_tag}
use Rattle.table.specs.declared.row.Row.{Row}
use Rattle.table.specs.declared.tag.Tag.{Tag}
use Rattle.table.specs.declared.tag.Tag.TheVariants as tag
use Rattle.table.proofs.Leading.{leading-bytes}
use Rattle.table.proofs.Tags.{tag_same, same_tag_lem}
use Rattle.format.specs.Encoding.{content_entry, name_entry, pair_entry}
use Rattle.format.specs.Resolve.{leading, content_of, name_of, pair_of}
use Rattle.format.proofs.RowsByTag.{leading-more, leading-ends}
use Rattle.write.specs.Run.{row_bytes, run_bytes}
use Rattle.write.specs.Section.{entry_count}

-- ---- whatever the rows are read as

module _ (payload edit : List ℕ) (rows : List Row) where
  pub run-contents : run_bytes payload edit tag.Content rows ≡ flat_map content_entry (leading (Some tag.Content) (content_of payload edit) rows)
  unfolding run_bytes row_bytes leading
  run-contents = leading-bytes _ (Some tag.Content) (content_of payload edit) (row_bytes payload edit tag.Content) content_entry (λ r q. refl) rows

  pub run-names : run_bytes payload edit tag.Name rows ≡ flat_map name_entry (leading (Some tag.Name) (name_of payload edit) rows)
  unfolding run_bytes row_bytes leading
  run-names = leading-bytes _ (Some tag.Name) (name_of payload edit) (row_bytes payload edit tag.Name) name_entry (λ r q. refl) rows

  pub run-pairs : run_bytes payload edit tag.Pair rows ≡ flat_map pair_entry (leading (Some tag.Pair) (pair_of payload edit) rows)
  unfolding run_bytes row_bytes leading
  run-pairs = leading-bytes _ (Some tag.Pair) (pair_of payload edit) (row_bytes payload edit tag.Pair) pair_entry (λ r q. refl) rows

-- ---- row by row

module _ (payload edit : List ℕ) (t : Tag) (r : Row) (rows : List Row) where
  -- a row of the tag is the next entry
  pub count-more : same_tag (tag_of r.tag) (Some t) ≡ true → entry_count (Some t) (r ∷ rows) ≡ 1 + entry_count (Some t) rows
  count-more q = rw (leading-more (Some t) (λ (s : Row). s) r rows (tag_same (tag_of r.tag) (Some t) q)) (omega arith)

  pub bytes-more : same_tag (tag_of r.tag) (Some t) ≡ true → run_bytes payload edit t (r ∷ rows) ≡ row_bytes payload edit t r ++ run_bytes payload edit t rows
  unfolding run_bytes flat_map
  bytes-more q = rw (leading-more (Some t) (λ (s : Row). s) r rows (tag_same (tag_of r.tag) (Some t) q))

  -- any other ends the entries
  pub count-stops : same_tag (tag_of r.tag) (Some t) ≡ false → entry_count (Some t) (r ∷ rows) ≡ 0
  count-stops n = rw (leading-ends (Some t) (λ (s : Row). s) r rows (λ q. cc (same_tag_lem (tag_of r.tag) (Some t) q)))

  pub bytes-stop : same_tag (tag_of r.tag) (Some t) ≡ false → run_bytes payload edit t (r ∷ rows) ≡ []
  unfolding run_bytes flat_map
  bytes-stop n = rw (leading-ends (Some t) (λ (s : Row). s) r rows (λ q. cc (same_tag_lem (tag_of r.tag) (Some t) q)))

-- and so does the table's end
pub count-past : (t : Tag) → entry_count (Some t) [] ≡ 0
unfolding leading
count-past t = refl

pub bytes-past : (payload edit : List ℕ) (t : Tag) → run_bytes payload edit t [] ≡ []
unfolding run_bytes flat_map leading
bytes-past payload edit t = refl

pub ruleset run_steps = (count-more, bytes-more, count-stops, bytes-stop, count-past, bytes-past, length-append, sets-append, next-row, no-row)
