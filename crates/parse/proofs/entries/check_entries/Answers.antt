-- `check_entries` meets its contract: an entry ends within the part, and entries are a run whose step is the check of one.
use Rattle.std.proofs.Common.{◌≡◌, ◌∙◌, ℕ, sym, arith, rules}
use Rattle.std.specs.Prelude.{Ok}
use Rattle.layout.specs.Checked.{Checked}
use Rattle.layout.proofs.Checked.{taking-ok}
use Rattle.layout.specs.Kinds.{header_size}
use Rattle.format.specs.Parse.{entry, after_entry, content_row_at}
use Rattle.format.proofs.EntryLaws.{entry-good}
use Rattle.parse.specs.Outcome.{place_of}
use Rattle.parse.proofs.RunLaws.{entries-run}
use Rattle.parse.proofs.entries.check_entries.Goals as goal

pub check_run-requires-clause-inside : goal.check_run-requires-clause-inside
check_run-requires-clause-inside c at next low met =
    let part = c.args.part in
    let header = header_size c.args.kind in
    let e : ◌≡◌ {A = Checked ℕ} (Ok next) (place_of (after_entry header at) (entry header part.payload.now at part.end)) = search rules in
    let (n, found, there) = taking-ok (after_entry header at) _ next (sym e) in
    omega (arith, there, (entry-good _ _ _ _ n found).within)

pub returns : goal.returns
returns c =
    let a = c.args in
    c.check_run.ensures _ (λ at r low met. search rules) ∙ entries-run a.part.payload.now a.part.end (header_size a.kind) content_row_at a.count a.start
