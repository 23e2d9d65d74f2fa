-- Document 01's number and second number for every case of an answer, with those that the requests of document 02 add.
use Rattle.std.specs.Prelude.{ℕ, Ok, Err}
use Rattle.layout.specs.Checked.{Checked}
use Rattle.layout.specs.declared.refusal.Refusal.{Refusal}
use Rattle.layout.specs.declared.refusal.Refusal.TheVariants.{Oversize, Ragged, MainHeader, Frame, Flag, Short, BodySize, Padding, EntrySize, OpenText, NotUtf8, InnerNul, Leftover, Compression, Unequal, NoRows, BadRow, WontFit, NoRoom, BadLine}

abbrev pub refusal_number : Refusal → ℕ
refusal_number Oversize = 1
refusal_number Ragged = 2
refusal_number MainHeader = 3
refusal_number Frame = 4
refusal_number Flag = 5
refusal_number Short = 6
refusal_number BodySize = 7
refusal_number Padding = 8
refusal_number EntrySize = 9
refusal_number OpenText = 10
refusal_number NotUtf8 = 11
refusal_number InnerNul = 12
refusal_number Leftover = 13
refusal_number Compression = 14
refusal_number Unequal = 15
refusal_number (NoRows rows) = 16
refusal_number BadRow = 17
refusal_number WontFit = 18
refusal_number (NoRoom bytes) = 19
refusal_number (BadLine line) = 20

-- rows needed for 16, bytes needed for 19, the line's number for 20, else 0
abbrev pub refusal_second : Refusal → ℕ
refusal_second Oversize = 0
refusal_second Ragged = 0
refusal_second MainHeader = 0
refusal_second Frame = 0
refusal_second Flag = 0
refusal_second Short = 0
refusal_second BodySize = 0
refusal_second Padding = 0
refusal_second EntrySize = 0
refusal_second OpenText = 0
refusal_second NotUtf8 = 0
refusal_second InnerNul = 0
refusal_second Leftover = 0
refusal_second Compression = 0
refusal_second Unequal = 0
refusal_second (NoRows rows) = rows
refusal_second BadRow = 0
refusal_second WontFit = 0
refusal_second (NoRoom bytes) = bytes
refusal_second (BadLine line) = line

-- how many rows or bytes a call stored, or why it is refused
abbrev pub Answer : Type 0
Answer = Checked ℕ

-- an accepted call has number 0, and its second number is how many rows or bytes were stored
abbrev pub answer_number : Answer → ℕ
answer_number (Ok stored) = 0
answer_number (Err refusal) = refusal_number refusal

abbrev pub answer_second : Answer → ℕ
answer_second (Ok stored) = stored
answer_second (Err refusal) = refusal_second refusal
