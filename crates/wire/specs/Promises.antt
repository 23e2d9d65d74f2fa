-- What the definitions promise. proofs/Promises.antt proves each.
use Rattle.std.specs.Prelude.{◌≡◌, List, ◌++◌, ℕ, ◌+◌, ◌%◌, ◌^◌, ◌≤◌, ◌<◌, length, get_or, take, Some}
use Rattle.wire.specs.Length.{wire_size, terminated}
use Rattle.wire.specs.Number.{little_endian, bytes_of}
use Rattle.wire.specs.Padding.{aligned}
use Rattle.wire.specs.declared.length.TextLength.{TextLength}

-- padding brings a length to the next multiple of 4
abbrev pub PaddingAligns : Type 0
PaddingAligns = (n : ℕ) → (aligned n % 4 ≡ 0) × (n ≤ aligned n) × (aligned n < n + 4)

-- a number that fits its width reads back from its bytes, whatever follows them
abbrev pub NumberReadsBack : Type 0
NumberReadsBack = (width n : ℕ) (after : List ℕ) → n < 256 ^ width → little_endian width (bytes_of width n ++ after) ≡ n

-- bytes are written back from the number that they spell
abbrev pub BytesWriteBack : Type 0
BytesWriteBack = (width : ℕ) (s : List ℕ) → ((k : ℕ) → get_or s k 0 < 256) → width ≤ length s → bytes_of width (little_endian width s) ≡ take width s

-- a text's length comes back from its wire size, and a wire size from the text that it counts
abbrev pub LengthConverts : Type 0
LengthConverts =
    ((n : ℕ) → n < 2 ^ 32 → terminated (wire_size n) ≡ Some (record { 0 = n }))
    × ((size : ℕ) (text : TextLength) → terminated size ≡ Some text → size ≡ wire_size text.0)
