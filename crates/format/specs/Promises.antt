-- What the definitions promise, of every payload. Each is proved under its name in proofs/Promises.antt or RowsInOrder.antt.
use Rattle.std.specs.Prelude.{ℕ, ◌+◌, ◌-◌, ◌*◌, ◌/◌, ◌%◌, ◌^◌, ◌≤◌, ◌<◌, true, false, cond, ◌≡◌, leb, length, drop, Err, Ok}
use mathlib.Core.List.{List, [], ◌∷◌, ◌++◌, flat_map}
use Rattle.layout.specs.Checked.{Checked}
use Rattle.layout.specs.Refusals.{refusal_number, refusal_second}
use Rattle.layout.specs.declared.span.Span.{Span}
use Rattle.table.specs.Rows.{width, rows_of, table_of, spans_of}
use Rattle.table.specs.declared.row.Row.{Row}
use Rattle.layout.specs.declared.refusal.Refusal.{Refusal}
use Rattle.layout.specs.declared.refusal.Refusal.TheVariants.{NoRows}
use Rattle.format.specs.Encoding.{encode}
use Rattle.format.specs.Output.{answer, output_after}
use Rattle.format.specs.Parse.{parse}
use Rattle.format.specs.Read.{read_answer, read_table, accepted}
use Rattle.format.specs.Sections.{Section}
use Rattle.format.specs.WellFormed.{Bytes, Words, All}

-- ---- the layout

-- a payload has at least the 8 bytes of its header, and is a multiple of 4
abbrev pub PayloadSize : Type 0
PayloadSize = (ss : List Section) → (8 ≤ length (encode ss)) × (length (encode ss) % 4 ≡ 0)

-- ---- refused calls

-- a refused call changes no number of a table
abbrev pub RefusedLeavesTable : Type 0
RefusedLeavesTable =
    (p table : List ℕ) (refusal : Refusal) → read_answer p (length table) ≡ Err refusal → read_table p table ≡ table

-- and no byte of an output, whichever job made what
abbrev pub RefusedLeavesOutput : Type 0
RefusedLeavesOutput =
    (made : Checked (List ℕ)) (output : List ℕ) (refusal : Refusal) → answer made (length output) ≡ Err refusal → output_after made output ≡ output

-- ---- accepted calls

-- an accepted read returns the rows stored, from the table's start on and within it; slots past them keep their values
abbrev pub AcceptedStoresRows : Type 0
AcceptedStoresRows =
    (p table : List ℕ) (count : ℕ) →
    read_answer p (length table) ≡ Ok count →
    (rows : List Row)
    × (parse p ≡ Ok rows)
    × (length rows ≡ count)
    × (count * width ≤ length table)
    × (read_table p table ≡ table_of rows ++ drop (count * width) table)

-- and any other accepted call the bytes stored, whichever job made them
abbrev pub AcceptedStoresBytes : Type 0
AcceptedStoresBytes =
    (made : Checked (List ℕ)) (output : List ℕ) (count : ℕ) →
    answer made (length output) ≡ Ok count →
    (bytes : List ℕ)
    × (made ≡ Ok bytes)
    × (length bytes ≡ count)
    × (count ≤ length output)
    × (output_after made output ≡ bytes ++ drop count output)

-- ---- reading

-- an accepted payload of n bytes has at most (n − 8) / 2 rows
abbrev pub MostRows : Type 0
MostRows = (p : List ℕ) (rows : List Row) → parse p ≡ Ok rows → length rows ≤ (length p - 8) / 2

-- an accepted payload has its rows, and the table's length decides between their number and 16 alone
abbrev pub AcceptedWhateverTable : Type 0
AcceptedWhateverTable =
    (p : List ℕ) →
    accepted p ≡ true →
    (rows : List Row)
    × (parse p ≡ Ok rows)
    × ((numbers : ℕ) → read_answer p numbers ≡ cond (leb (length rows) (numbers / width)) (Ok (length rows)) (Err (NoRows (length rows))))

-- any other payload has one refusal, which is one of 1 to 15 and has second number 0, whatever table is lent
abbrev pub RefusedWhateverTable : Type 0
RefusedWhateverTable =
    (p : List ℕ) → accepted p ≡ false → (refusal : Refusal) × (1 ≤ refusal_number refusal) × (refusal_number refusal ≤ 15) × (refusal_second refusal ≡ 0) × ((numbers : ℕ) → read_answer p numbers ≡ Err refusal)

-- the texts and bytes that a row names lie in the payload, inside it
abbrev pub Placed : List ℕ → Row → Type 0
Placed p r = All (λ (s : Span). (s.side ≡ 0) × (s.start + s.count ≤ length p)) (spans_of r)

-- reading writes side 0
abbrev pub SideZero : Type 0
SideZero = (p : List ℕ) (rows : List Row) → Bytes p → parse p ≡ Ok rows → All (λ (r : Row). r.side ≡ 0) rows

-- between two places, each span begins where the one before it ends, or later
abbrev pub Ascend : ℕ → ℕ → List Span → Type 0
Ascend at end [] = at ≤ end
Ascend at end (s ∷ spans) = (at ≤ s.start) × Ascend (s.start + s.count) end spans

-- and wire order: the texts and bytes that the rows name follow each other in the payload, after its header
abbrev pub WireOrder : Type 0
WireOrder = (p : List ℕ) (rows : List Row) → Bytes p → parse p ≡ Ok rows → Ascend 8 (length p) (flat_map spans_of rows)

-- every number of a row fits 32 bits
pub record Fits32 (r : Row) : Type 0 where
  pub tag : r.tag < 2 ^ 32
  pub side : r.side < 2 ^ 32
  pub a : r.a < 2 ^ 32
  pub b : r.b < 2 ^ 32
  pub c : r.c < 2 ^ 32
  pub d : r.d < 2 ^ 32
  pub e : r.e < 2 ^ 32

-- every row of an accepted payload names places inside it, in numbers of 32 bits
abbrev pub RowsInside : Type 0
RowsInside = (p : List ℕ) (rows : List Row) → Bytes p → parse p ≡ Ok rows → All (Placed p) rows × All Fits32 rows

-- the rows of a table of u32s have numbers of 32 bits
abbrev pub WordsFit : Type 0
WordsFit = (table : List ℕ) → Words table → All Fits32 (rows_of table)
