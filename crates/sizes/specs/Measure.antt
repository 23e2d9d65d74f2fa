-- Measuring, record by record: what is kept, how a record changes it, and what it comes to. That this is the length of what the records' sections
-- encode to is a theorem (proofs/MeasuredRecords.antt).
use Rattle.std.specs.Prelude.{ℕ, ◌+◌, Bool, false, cond, not, ◌&&◌, ◌||◌, List, [], ◌∷◌, leb, ltb, length, Option, Some, None, Ok}
use Rattle.wire.specs.Length.{wire_size}
use Rattle.wire.specs.Padding.{aligned}
use Rattle.layout.specs.Checked.{Checked, check, taking}
use Rattle.layout.specs.declared.refusal.Refusal.TheVariants.{WontFit}
use Rattle.table.specs.Tags.{same_tag, begins_section}
use Rattle.table.specs.declared.tag.Tag.{Tag}
use Rattle.table.specs.declared.tag.Tag.TheVariants.{PlainContents, PackedContents, Names, Arguments, Unknown, Content, Name, Pair}
use Rattle.format.specs.Encoding.{limit}
use Rattle.format.specs.Records.{Record, text}
use Rattle.sizes.specs.declared.sizes.Sizes.{Sizes}

-- bytes by their number
abbrev pub sized : Checked (List ℕ) → Checked ℕ
sized = taking length

-- a number past the most stays one past it
unfoldable pub capped : ℕ → ℕ → ℕ
capped most n = cond (leb n most) n (most + 1)

-- the bytes of a section that a record of a tag begins, before its entries: its headers, and the first length of bytes that a packed or an unknown
-- section stores
unfoldable pub opened : Tag → ℕ → ℕ
opened PlainContents first = 28
opened PackedContents first = 28 + first
opened Names first = 18
opened Arguments first = 20
opened Unknown first = 8 + first
opened Content first = 0
opened Name first = 0
opened Pair first = 0

-- the bytes of the entry that a record of a tag is, with a text of the first length, and a pair's value of the second
unfoldable pub added : Tag → ℕ → ℕ → ℕ
added PlainContents first second = 0
added PackedContents first second = 0
added Names first second = 0
added Arguments first second = 0
added Unknown first second = 0
added Content first second = aligned (12 + wire_size first)
added Name first second = aligned (16 + wire_size first)
added Pair first second = wire_size first + wire_size second

abbrev pub sizes : Option Tag → ℕ → ℕ → ℕ → Bool → Sizes
sizes previous sections complete current wide =
    record { previous = previous; sections = sections; complete = complete; current = current; wide = wide }

-- the most that 16 bits count: sections, and the entry bytes of names
abbrev pub count_limit : ℕ
count_limit = 65535

-- a record of a tag that begins a section closes the one before
abbrev pub begin : Sizes → Tag → ℕ → Sizes
begin m t first =
    sizes (Some t) (capped count_limit (m.sections + 1)) (capped limit (m.complete + aligned m.current)) (capped limit (opened t first)) m.wide

-- the entry bytes of names stand after headers of 18
abbrev pub widest : ℕ
widest = 18 + count_limit

-- an entry adds to the section that is not complete
abbrev pub extend : Sizes → Tag → ℕ → ℕ → Sizes
extend m t first second =
    let current : ℕ = capped limit (m.current + added t first second) in
    sizes (Some t) m.sections m.complete current (m.wide || (same_tag (Some t) (Some Name) && ltb widest current))

-- what has no tag adds nothing
unfoldable pub advance : Sizes → Option Tag → ℕ → ℕ → Sizes
advance m None first second = sizes None m.sections m.complete (capped limit m.current) m.wide
advance m (Some t) first second = cond (begins_section t) (begin m t first) (extend m t first second)

-- nothing but the main header
abbrev pub nothing : Sizes
nothing = sizes None 0 8 0 false

-- the size in the end, within the limits
unfoldable pub finish : Sizes → Checked ℕ
finish m =
    let size : ℕ = m.complete + aligned m.current in
    check (leb m.sections count_limit && not m.wide && leb size limit) WontFit (λ _.
    Ok size)

-- records in order, each counted by its tag and the lengths of its texts
unfoldable pub measure_records : Sizes → List Record → Sizes
measure_records m [] = m
measure_records m (r ∷ rs) = measure_records (advance m (Some r.tag) (length (text 0 r)) (length (text 1 r))) rs
