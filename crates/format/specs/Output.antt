-- A call with lent output, whichever job it is: what it answers, and the output afterwards, by what the job makes.
use Rattle.layout.specs.Refusals.{Answer}
use Rattle.std.specs.Prelude.{ℕ, cond, List, ◌++◌, leb, length, drop, Err, Ok}
use Rattle.layout.specs.Checked.{Checked}
use Rattle.layout.specs.declared.refusal.Refusal.TheVariants.{NoRoom}

-- what the call answers where room for so many bytes is lent
unfoldable pub answer : Checked (List ℕ) → ℕ → Answer
answer (Err refusal) room = Err refusal
answer (Ok bytes) room = cond (leb (length bytes) room) (Ok (length bytes)) (Err (NoRoom (length bytes)))

-- the output after such a call: the bytes from its start on, the rest as it was; as it was where the call is refused
unfoldable pub output_after : Checked (List ℕ) → List ℕ → List ℕ
output_after (Err refusal) output = output
output_after (Ok bytes) output = cond (leb (length bytes) (length output)) (bytes ++ drop (length bytes) output) output
