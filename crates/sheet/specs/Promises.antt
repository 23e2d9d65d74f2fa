-- What the definitions promise, of every payload and every sheet. Each is proved under its name in proofs/Promises.antt, FaultyLines.antt,
-- Refusals.antt or SheetSize.antt.
use Rattle.std.specs.Prelude.{ℕ, ◌+◌, ◌*◌, ◌≤◌, ◌<◌, min, ◌⊎◌, ◌≡◌, length, take, Option, Some, None, Err, Ok}
use mathlib.Core.List.{List, [], ◌∷◌, ◌++◌, flat_map}
use Rattle.layout.specs.declared.refusal.Refusal.{Refusal}
use Rattle.layout.specs.declared.refusal.Refusal.TheVariants.{NotUtf8, InnerNul, WontFit, BadLine}
use Rattle.table.specs.declared.tag.Tag.{Tag}
use Rattle.format.specs.Output.{answer, output_after}
use Rattle.format.specs.Records.{Record}
use Rattle.format.specs.RefusedCalls.{LacksRoom, RefusesAsReading}
use Rattle.format.specs.Secrecy.{AcceptedPayload}
use Rattle.format.specs.WellFormed.{Bytes}
use Rattle.sheet.specs.Fields.{newline}
use Rattle.sheet.specs.FromSheet.{sheet_records, from_sheet, from_sheet_answer, from_sheet_output}
use Rattle.sheet.specs.Lines.{split, read_line}
use Rattle.sheet.specs.ToSheet.{to_sheet, to_sheet_answer, to_sheet_output}

-- ---- one to one

-- out and back: an accepted payload has a sheet, which is accepted and writes exactly the payload
abbrev pub OutAndBack : Type 0
OutAndBack = (p : List ℕ) → AcceptedPayload p → (s : List ℕ) × (to_sheet p ≡ Ok s) × (from_sheet s ≡ Ok p)

-- one sheet only: a sheet that is accepted writes an accepted payload, whose sheet is this one, byte for byte
abbrev pub OneSheetOnly : Type 0
OneSheetOnly = (s p : List ℕ) → from_sheet s ≡ Ok p → AcceptedPayload p × (to_sheet p ≡ Ok s)

-- so two sheets that write one payload are one
abbrev pub SheetsDiffer : Type 0
SheetsDiffer = (s t p : List ℕ) → from_sheet s ≡ Ok p → from_sheet t ≡ Ok p → s ≡ t

-- and two payloads that have one sheet are one
abbrev pub PayloadsDiffer : Type 0
PayloadsDiffer = (p q s : List ℕ) → Bytes p → Bytes q → to_sheet p ≡ Ok s → to_sheet q ≡ Ok s → p ≡ q

-- said of the calls: the sheet that was stored, back into any output
abbrev pub CallsOutAndBack : Type 0
CallsOutAndBack =
    (p output again : List ℕ) (count : ℕ) →
    Bytes p →
    to_sheet_answer p (length output) ≡ Ok count →
    (let s : List ℕ = take count (to_sheet_output p output) in
    (from_sheet_answer s (length again) ≡ answer (Ok p) (length again)) × (from_sheet_output s again ≡ output_after (Ok p) again))

-- and the payload that was stored, out again into any output
abbrev pub CallsOneSheetOnly : Type 0
CallsOneSheetOnly =
    (s output again : List ℕ) (count : ℕ) →
    from_sheet_answer s (length output) ≡ Ok count →
    (let p : List ℕ = take count (from_sheet_output s output) in
    AcceptedPayload p × (to_sheet_answer p (length again) ≡ answer (Ok s) (length again)) × (to_sheet_output p again ≡ output_after (Ok s) again))

-- ---- refusals

-- the first faulty line decides: what comes after the newline of a line that is at fault changes nothing
abbrev pub FirstFaultDecides : Type 0
FirstFaultDecides =
    (s after : List ℕ) (refusal : Refusal) →
    sheet_records (s ++ (newline ∷ [])) ≡ Err refusal →
    (from_sheet (s ++ newline ∷ after) ≡ Err refusal) × ((room : ℕ) → from_sheet_answer (s ++ newline ∷ after) room ≡ Err refusal)

-- the refusals of lines: 11, 12 and 20
abbrev pub OfLines : Refusal → Type 0
OfLines refusal = (refusal ≡ NotUtf8) ⊎ (refusal ≡ InnerNul) ⊎ ((n : ℕ) × (refusal ≡ BadLine n))

-- said of the calls: a call that is refused with one of these is refused with it whatever comes after the newline, and whatever room is lent
abbrev pub CallsFirstFault : Type 0
CallsFirstFault =
    (s after : List ℕ) (room room' : ℕ) (refusal : Refusal) →
    from_sheet_answer (s ++ (newline ∷ [])) room ≡ Err refusal →
    OfLines refusal →
    from_sheet_answer (s ++ newline ∷ after) room' ≡ Err refusal

-- lines, each closed by a newline
abbrev pub closed : List (List ℕ) → List ℕ
closed lines = flat_map (λ (line : List ℕ). line ++ (newline ∷ [])) lines

-- the tag of the last of some records; the previous tag where there are none
unfoldable pub last_tag : Option Tag → List Record → Option Tag
last_tag previous [] = previous
last_tag previous (r ∷ rs) = last_tag (Some r.tag) rs

-- a line with its number, after a line of the previous tag, is refused: it is not closed, since nothing comes after it, and not empty, which is 20
-- with its number; or it is closed, and the refusal is that of reading it, where 20 has its number
abbrev pub RefusedLine : ℕ → Option Tag → List ℕ → List (List ℕ) → Refusal → Type 0
RefusedLine number previous line after refusal =
    ((after ≡ []) × (0 < length line) × (refusal ≡ BadLine (min number 4294967295)))
    ⊎ ((0 < length after) × (read_line (BadLine (min number 4294967295)) previous line ≡ Err refusal))

-- the first faulty line of a sheet, whose refusal is the sheet's
pub record FaultyLine (s : List ℕ) (refusal : Refusal) : Type 0 where
  -- the sheet, parted by its newlines: the lines before the faulty one, this line, and what comes after its newline; the last part is what is
  -- not closed
  pub before : List (List ℕ)
  pub line : List ℕ
  pub after : List (List ℕ)
  pub parted : (split newline s).first ∷ (split newline s).rest ≡ before ++ line ∷ after
  -- the lines before it are a sheet without fault
  pub records : List Record
  pub read : sheet_records (closed before) ≡ Ok records
  -- and it is refused itself; lines are numbered from 1
  pub own : RefusedLine (1 + length before) (last_tag None records) line after refusal

-- a fault is that of the first faulty line
abbrev pub FaultIsOfALine : Type 0
FaultIsOfALine = (s : List ℕ) (refusal : Refusal) → sheet_records s ≡ Err refusal → FaultyLine s refusal

-- said of the calls: 11, 12 and 20 are those of the first faulty line
abbrev pub CallsFaultyLine : Type 0
CallsFaultyLine =
    (s : List ℕ) (room : ℕ) (refusal : Refusal) → from_sheet_answer s room ≡ Err refusal → OfLines refusal → FaultyLine s refusal

-- so the second number of 20, where it is below 4,294,967,295, is the number of the first faulty line
abbrev pub LineNumber : Type 0
LineNumber =
    (s : List ℕ) (room n : ℕ) →
    from_sheet_answer s room ≡ Err (BadLine n) →
    n < 4294967295 →
    (faulty : FaultyLine s (BadLine n)) × (n ≡ 1 + length faulty.before)

-- a sheet of an accepted payload is refused for room alone, and any other payload as reading refuses it
abbrev pub ToSheetRefuses : Type 0
ToSheetRefuses = RefusesAsReading to_sheet to_sheet_answer

-- 11, 12, 18, or 20 with the number of a line, from 1; one past 32 bits stops at 4,294,967,295
abbrev pub OfSheet : Refusal → Type 0
OfSheet refusal =
    (refusal ≡ NotUtf8) ⊎ (refusal ≡ InnerNul) ⊎ (refusal ≡ WontFit) ⊎ ((n : ℕ) × (1 ≤ n) × (refusal ≡ BadLine (min n 4294967295)))

abbrev pub FromSheetRefuses : Type 0
FromSheetRefuses =
    (s : List ℕ) (room : ℕ) (refusal : Refusal) →
    from_sheet_answer s room ≡ Err refusal →
    ((from_sheet s ≡ Err refusal) × OfSheet refusal) ⊎ LacksRoom (from_sheet s) room refusal

-- ---- size

-- a sheet is at most three and a half times as long as its payload
abbrev pub SheetSize : Type 0
SheetSize = (p s : List ℕ) → Bytes p → to_sheet p ≡ Ok s → 2 * length s ≤ 7 * length p
