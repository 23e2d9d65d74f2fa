-- Demand 2 as statements about the definitions: what is accepted is exactly what is written. Each is proved under its name in
-- proofs/RoundTrips.antt, EncodedBytes.antt, SaidSections.antt or Renaming.antt. Where a statement needs that bytes are bytes, or that
-- a row's numbers fit 32 bits, it says so; else payloads, edit texts, tables and outputs are any.
use Rattle.std.specs.Prelude.{ℕ, ◌+◌, ◌*◌, ◌/◌, ◌^◌, ◌≤◌, ◌<◌, true, List, [], ◌∷◌, map, ◌≡◌, length, get_or, take, set, Ok, Some}
use Rattle.layout.specs.Checked.{Checked, check, then}
use Rattle.layout.specs.Spans.{part, span_bytes, inside}
use Rattle.layout.specs.declared.span.Span.{Span}
use Rattle.table.specs.Rows.{width, no_row, rows_of, store_row, name_row}
use Rattle.table.specs.Tags.{tag_of}
use Rattle.table.specs.declared.tag.Tag.TheVariants.{Name}
use Rattle.table.specs.declared.row.Row.{Row}
use Rattle.layout.specs.declared.refusal.Refusal.TheVariants.{WontFit}
use Rattle.format.specs.Display.{display}
use Rattle.format.specs.Encoding.{encode, within_limits}
use Rattle.format.specs.Listing.{listed}
use Rattle.format.specs.Output.{answer, output_after}
use Rattle.format.specs.Parse.{parse}
use Rattle.format.specs.Read.{accepted, read_answer, read_table}
use Rattle.format.specs.Resolve.{sections_of, resolve}
use Rattle.format.specs.Rules.{texts_of}
use Rattle.format.specs.Said.{Said, says, numbers_by, said}
use Rattle.format.specs.Sections.{Section}
use Rattle.format.specs.WellFormed.{Bytes, Words, All, Text, WellFormed}
use Rattle.format.specs.Write.{written, write_answer, write_output}

-- ---- accepted means encoded

-- every accepted payload is the encoding of well-formed sections within the limits
abbrev pub AcceptedIsEncoded : Type 0
AcceptedIsEncoded =
    (p : List ℕ) → Bytes p → accepted p ≡ true → (ss : List Section) × All WellFormed ss × (within_limits ss ≡ true) × (encode ss ≡ p)

-- the sections that a payload's rows say
unfoldable pub sections_read : List ℕ → Checked (List Section)
sections_read p = then (parse p) (λ rows. Ok (sections_of p [] rows))

-- the encoding of any such sections is accepted, and says just them
abbrev pub EncodedIsAccepted : Type 0
EncodedIsAccepted = (ss : List Section) → All WellFormed ss → within_limits ss ≡ true → sections_read (encode ss) ≡ Ok ss

-- and is bytes, that is, numbers below 256
abbrev pub EncodedBytes : Type 0
EncodedBytes = (ss : List Section) → All WellFormed ss → Bytes (encode ss)

-- so a payload has one list of sections only
abbrev pub SectionsAreUnique : Type 0
SectionsAreUnique =
    (ss ts : List Section) →
    All WellFormed ss →
    All WellFormed ts →
    within_limits ss ≡ true →
    within_limits ts ≡ true →
    encode ss ≡ encode ts →
    ss ≡ ts

-- ---- an accepted payload's rows

-- they obey the rules of rows
abbrev pub RowsResolve : Type 0
RowsResolve = (p edit : List ℕ) (rows : List Row) → Bytes p → parse p ≡ Ok rows → resolve p edit rows ≡ Ok (sections_of p edit rows)

-- so that the listing of an accepted payload is the display of its sections
abbrev pub ListsSections : Type 0
ListsSections = (p : List ℕ) (rows : List Row) → Bytes p → parse p ≡ Ok rows → listed p ≡ Ok (display (sections_of p [] rows))

-- a text of the payload itself: on side 0, inside it, and a text
abbrev pub OwnText : List ℕ → Span → Type 0
OwnText p s = (s.side ≡ 0) × (s.start + s.count ≤ length p) × Text (part p s.start s.count)

-- each text that they name is one
abbrev pub TextsAreTexts : Type 0
TextsAreTexts = (p : List ℕ) (rows : List Row) → Bytes p → parse p ≡ Ok rows → All (λ (r : Row). All (OwnText p) (texts_of r)) rows

-- they write back exactly its bytes, whatever the edit text
abbrev pub WritesBack : Type 0
WritesBack = (p edit : List ℕ) (rows : List Row) → Bytes p → parse p ≡ Ok rows → written p edit rows ≡ Ok p

-- the start of a table that reading was lent, up to where its rows end
abbrev pub rows_kept : List ℕ → List ℕ → List Row → List ℕ
rows_kept p table rows = take (length rows * width) (read_table p table)

-- said of the calls: the rows that reading stored in a table that is long enough, written into any output
abbrev pub CallsWriteBack : Type 0
CallsWriteBack =
    (p edit table output : List ℕ) (rows : List Row) →
    Bytes p →
    parse p ≡ Ok rows →
    length rows ≤ length table / width →
    (let kept : List ℕ = rows_kept p table rows in
    (write_answer p edit kept (length output) ≡ answer (Ok p) (length output)) × (write_output p edit kept output ≡ output_after (Ok p) output))

-- ---- what was written

-- of a row, the numbers that are written as they are fit a field of 32 bits; its starts and lengths may be any
abbrev pub NumbersFit : Row → Type 0
NumbersFit r = All (λ (n : ℕ). n < 2 ^ 32) (numbers_by (tag_of r.tag) r)

-- it is bytes, and reads as the rows that it was written from: row by row they say the same, and only their places differ
abbrev pub ReadsBack : Type 0
ReadsBack =
    (payload edit q : List ℕ) (rows : List Row) →
    Bytes payload →
    Bytes edit →
    All NumbersFit rows →
    written payload edit rows ≡ Ok q →
    Bytes q × (again : List Row) × (parse q ≡ Ok again) × (map (said q []) again ≡ map (said payload edit) rows)

-- said of the calls: what writing stored, read into a table that is long enough
abbrev pub CallsReadBack : Type 0
CallsReadBack =
    (payload edit table output lent : List ℕ) (count : ℕ) →
    Bytes payload →
    Bytes edit →
    Words table →
    write_answer payload edit table (length output) ≡ Ok count →
    length (rows_of table) ≤ length lent / width →
    (let q : List ℕ = take count (write_output payload edit table output) in
    let rows : ℕ = length (rows_of table) in
    Bytes q
    × (read_answer q (length lent) ≡ Ok rows)
    × (map (said q []) (take rows (rows_of (read_table q lent))) ≡ map (said payload edit) (rows_of table)))

-- what rows say, places apart, is all that decides what is written from them, whatever they are written over
abbrev pub SaidDecides : Type 0
SaidDecides =
    (p₁ e₁ q₁ : List ℕ) (rows₁ : List Row) (p₂ e₂ q₂ : List ℕ) (rows₂ : List Row) →
    written p₁ e₁ rows₁ ≡ Ok q₁ →
    written p₂ e₂ rows₂ ≡ Ok q₂ →
    map (said p₁ e₁) rows₁ ≡ map (said p₂ e₂) rows₂ →
    q₁ ≡ q₂

-- ---- renaming one file

-- the rows with the name row at an index pointed at a text, on either side
abbrev pub renamed : List Row → ℕ → Span → List Row
renamed rows i text = set rows i (name_row text (get_or rows i no_row).c)

-- what is written from them says the same as the payload but for that name: every other name, every content, all packed and unknown bytes, every
-- number
abbrev pub Renames : Type 0
Renames =
    (p edit q : List ℕ) (rows : List Row) (i : ℕ) (text : Span) →
    Bytes p →
    Bytes edit →
    parse p ≡ Ok rows →
    written p edit (renamed rows i text) ≡ Ok q →
    (let new : Said = says (Some Name) ((get_or rows i no_row).c ∷ []) (text.count ∷ []) (span_bytes p edit text ∷ []) in
    Bytes q × (again : List Row) × (parse q ≡ Ok again) × (map (said q []) again ≡ set (map (said p []) rows) i new))

-- rows that only the limits can refuse
abbrev pub OnlyLimits : List ℕ → List ℕ → List Row → Type 0
OnlyLimits payload edit rows =
    (let sections : List Section = sections_of payload edit rows in
    written payload edit rows ≡ check (within_limits sections) WontFit (λ _. Ok (encode sections)))

-- and where the row is a name's and the text is one, only the limits can refuse it
abbrev pub RenameIsWritten : Type 0
RenameIsWritten =
    (p edit : List ℕ) (rows : List Row) (i : ℕ) (text : Span) →
    Bytes p →
    parse p ≡ Ok rows →
    tag_of (get_or rows i no_row).tag ≡ Some Name →
    inside p edit text ≡ true →
    Text (span_bytes p edit text) →
    OnlyLimits p edit (renamed rows i text)

-- so it is where the name is a text of the payload itself, as another row's is
abbrev pub OwnTextIsWritten : Type 0
OwnTextIsWritten =
    (p edit : List ℕ) (rows : List Row) (i : ℕ) (text : Span) →
    Bytes p →
    parse p ≡ Ok rows →
    tag_of (get_or rows i no_row).tag ≡ Some Name →
    OwnText p text →
    OnlyLimits p edit (renamed rows i text)

-- said of the calls: the rows that reading stored in a table that is long enough, with one row stored anew, written into any output
abbrev pub CallsRename : Type 0
CallsRename =
    (p edit table output : List ℕ) (rows : List Row) (i : ℕ) (text : Span) →
    parse p ≡ Ok rows →
    length rows ≤ length table / width →
    (let kept : List ℕ = rows_kept p table rows in
    let edited : List ℕ = store_row kept i (name_row text (get_or (rows_of kept) i no_row).c) in
    let made : Checked (List ℕ) = written p edit (renamed rows i text) in
    (write_answer p edit edited (length output) ≡ answer made (length output)) × (write_output p edit edited output ≡ output_after made output))
