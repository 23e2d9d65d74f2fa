-- A payload that is the encoding of well-formed sections, with their rows: these, over it and whatever edit text, resolve to the sections and write
-- the payload again; row by row they say what the sections do.
-- Assumes nothing.
use Rattle.std.specs.Prelude.{Ok, None}
use Prim.Native.Nat.{ℕ, ◌+◌}
use mathlib.Core.Bool.{true}
use mathlib.Core.List.{List, ◌++◌, map, flat_map}
use mathlib.Core.Path.{◌≡◌, sym, ap, ◌∙◌}
use native.Mathlib.Omega.{arith}
use lib.ListN.{length}
use Rattle.layout.specs.Checked.{Checked}
use Rattle.table.specs.declared.row.Row.{Row}
use Rattle.layout.proofs.Checked.{check-passes, then-passes}
use Rattle.format.specs.Encoding.{u16, u32, encode_section, encode, within_limits}
use Rattle.format.specs.Resolve.{sections_of, resolve}
use Rattle.format.specs.Rules.{check_rows}
use Rattle.format.specs.Said.{said}
use Rattle.format.specs.Sections.{Section}
use Rattle.format.specs.WellFormed.{All, WellFormed}
use Rattle.format.specs.Write.{written}
use Rattle.format.proofs.Encoding.{length-encode}
use Rattle.format.proofs.PlacedRows.{rows_from}
use Rattle.format.proofs.RowsSay.{said_of, said-by-sections}
use Rattle.format.proofs.RowsStand.{sections-say, rows_pass}
use Rattle.format.proofs.Stands.{Stands, stands-all, stands_after}

-- the sections stand after the main header
pub stand : (ss : List Section) → Stands (encode ss) 8 (flat_map encode_section ss)
unfolding encode
stand ss =
    let bytes : List ℕ = flat_map encode_section ss in
    let whole : Stands (encode ss) 0 (u32 (8 + length bytes) ++ (u16 0 ++ (u16 (length ss) ++ bytes))) = stands-all (encode ss) in
    let s₁ = stands_after (encode ss) 4 0 4 (8 + length bytes) (u16 0 ++ (u16 (length ss) ++ bytes)) (omega arith) whole in
    let s₂ = stands_after (encode ss) 2 4 6 0 (u16 (length ss) ++ bytes) (omega arith) s₁ in
    stands_after (encode ss) 2 6 8 (length ss) bytes (omega arith) s₂

pub encoded-sections : (ss : List Section) (edit : List ℕ) → sections_of (encode ss) edit (rows_from 8 ss) ≡ ss
encoded-sections ss edit = sections-say (encode ss) edit ss 8 (stand ss)

module _ (ss : List Section) (ok : All WellFormed ss) (p : List ℕ) (rows : List Row) (is : encode ss ≡ p) (its : rows ≡ rows_from 8 ss) (edit : List ℕ) where
  pub sections-are : sections_of p edit rows ≡ ss
  sections-are = rw (its, ← is) (encoded-sections ss edit)

  pub rows-obey : check_rows p edit None rows ≡ Ok tt
  rows-obey = rw (its, ← is) (rows_pass (encode ss) edit ss 8 ok (omega (arith, length-encode ss)) (stand ss) None)

  pub resolves : resolve p edit rows ≡ Ok ss
  unfolding resolve
  resolves = then-passes _ _ rows-obey (ap {B = Checked (List Section)} (λ (l : List Section). Ok l) sections-are)

  pub writes : within_limits ss ≡ true → written p edit rows ≡ Ok p
  unfolding written
  writes fit = then-passes _ _ resolves (check-passes _ _ _ fit (ap {B = Checked (List ℕ)} (λ (l : List ℕ). Ok l) is))

  pub rows-say : map (said p edit) rows ≡ flat_map said_of ss
  rows-say = sym (said-by-sections p edit rows rows-obey) ∙ ap (λ (l : List Section). flat_map said_of l) sections-are
