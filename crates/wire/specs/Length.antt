-- A text's length leaves its terminator out; a wire size counts it.
use Rattle.wire.specs.declared.length.TextLength.{TextLength}
use Rattle.std.specs.Prelude.{ℕ, zero, suc, ◌+◌, ◌^◌, true, false, ltb, Option, None, Some}

-- the bytes that a text of a length takes on the wire
abbrev pub wire_size : ℕ → ℕ
wire_size length = length + 1

-- the length of the text that a wire size counts: none for 0, and none that a length of 32 bits cannot hold
unfoldable pub terminated : ℕ → Option TextLength
terminated zero = None
terminated (suc n) = elim (ltb n (2 ^ 32)) [ true ↦ Some (record { 0 = n }) | false ↦ None ]
