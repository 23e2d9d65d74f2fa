-- The job of listing, with lent output: its answer, and the output afterwards.
use Rattle.layout.specs.Refusals.{Answer}
use Rattle.std.specs.Prelude.{ℕ, List, [], Ok}
use Rattle.layout.specs.Checked.{Checked, then}
use Rattle.format.specs.Parse.{parse}
use Rattle.format.specs.Resolve.{resolve}
use Rattle.format.specs.Display.{display}
use Rattle.format.specs.Output.{answer, output_after}

-- the listing of a payload: of the sections that its rows say
unfoldable pub listed : List ℕ → Checked (List ℕ)
listed payload =
    then (parse payload) (λ rows.
    then (resolve payload [] rows) (λ sections.
    Ok (display sections)))

-- what listing answers where so many bytes are lent
unfoldable pub list_answer : List ℕ → ℕ → Answer
list_answer payload room = answer (listed payload) room

-- the lent output after listing
unfoldable pub list_output : List ℕ → List ℕ → List ℕ
list_output payload output = output_after (listed payload) output
