-- What a program prints that reads a payload from its standard input and does a job whose outcome is text: every case of document 01.
use Rattle.std.specs.Prelude.{ℕ, cond, List, ◌++◌, leb, length, Err, Ok}
use Rattle.std.proofs.lemmas.List.Edits.{sets}
use Rattle.layout.specs.Checked.{Checked}
use Rattle.layout.specs.Refusals.{refusal_number, Answer}
use Rattle.layout.specs.declared.refusal.Refusal.{Refusal}
use Rattle.layout.specs.declared.refusal.Refusal.TheVariants.{NoRoom}
use Rattle.format.specs.Display.{ascii, decimal}
use Rattle.format.specs.Listing.{listed}

-- the most bytes that a program reads, and prints of a job's outcome
abbrev pub print_limit : ℕ
print_limit = 65536

-- the line of a refused call, by its number
abbrev pub number_line : ℕ → List ℕ
number_line number = ascii "// refused " ++ (decimal number ++ ascii "\n")

abbrev pub refused_line : Refusal → List ℕ
refused_line refusal = number_line (refusal_number refusal)

abbrev pub longer_line : List ℕ
longer_line = ascii "// longer than 65536 bytes\n"

-- what is printed of an answer, over an output of `print_limit` bytes that the call left: nothing more where it is accepted, else the line of the refusal from the
-- start on
unfoldable pub told : Answer → List ℕ → List ℕ
told (Ok count) output = output
told (Err refusal) output = sets output 0 (refused_line refusal)

-- how many bytes of it are printed
unfoldable pub told_length : Answer → ℕ
told_length (Ok count) = count
told_length (Err refusal) = length (refused_line refusal)

-- what is printed of an outcome
unfoldable pub outcome : Checked (List ℕ) → List ℕ
outcome (Err refusal) = refused_line refusal
outcome (Ok bytes) = cond (leb (length bytes) print_limit) bytes (refused_line (NoRoom (length bytes)))

-- what is printed, by the bytes that standard input holds
unfoldable pub printed : (List ℕ → Checked (List ℕ)) → List ℕ → List ℕ
printed job input = cond (leb (length input) print_limit) (outcome (job input)) longer_line

-- what list_payload prints
abbrev pub list_printed : List ℕ → List ℕ
list_printed input = printed listed input
