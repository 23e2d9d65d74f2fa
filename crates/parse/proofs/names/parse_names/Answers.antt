-- `parse_names` meets its contract: what is stored ends within the section, and which row an entry has does not change the count.
use Rattle.std.proofs.Common.{◌≡◌, ◌+◌, ◌≤◌, ℕ, List, ◌∙◌, sym, ap, arith, length}
use Rattle.std.specs.Prelude.{Ok}
use Rattle.std.proofs.lemmas.Result.{err_from_is_err_and}
use borrow.Author.Tests.{le-leb, eq-eqb}
use Rattle.wire.specs.Number.{u16_at, u32_at}
use Rattle.layout.specs.Checked.{check, then}
use Rattle.layout.proofs.Checked.{taking-ok}
use Rattle.table.specs.Rows.{names_row}
use Rattle.format.specs.Parse.{parse_names, entries, framed, content_row_at, name_row_at}
use Rattle.format.proofs.EntryLaws.{entries-bound}
use Rattle.format.proofs.FrameLaws.{framed-good}
use Rattle.parse.specs.Outcome.{counted, add}
use Rattle.parse.proofs.Count.{counted-more}
use Rattle.parse.proofs.RunLaws.{entries-run}
use Rattle.parse.proofs.names.parse_names.Goals as goal

pub invariant_of-check_entries-clause-within : goal.invariant_of-check_entries-clause-within
invariant_of-check_entries-clause-within c =
    let within = (framed-good _ _ c.args.section.size 18 _ (sym c.in_ok-check_framed.ensures)).within in
    omega (arith, within, c.args.section.within)

-- what is counted once the tests before the entries have held
counts :
    (p : List ℕ) (at size bytes count : ℕ) →
    18 ≤ size →
    u32_at p (at + 8) ≡ 0 →
    bytes ≡ u16_at p (at + 16) →
    count ≡ u32_at p (at + 12) →
    framed p at size 18 bytes ≡ Ok tt →
    counted (parse_names p at size) ≡ add 1 (counted (entries 16 content_row_at count p (at + 18) (at + 18 + bytes)))
unfolding parse_names check then
counts p at size bytes count long flags stored many fits =
    rw (le-leb 18 size long, eq-eqb _ 0 flags, ← stored, ← many, fits)
    (counted-more names_row (entries 16 (name_row_at p) count p (at + 18) (at + 18 + bytes))
    ∙ ap (add 1) (sym (entries-run p _ 16 (name_row_at p) count (at + 18)) ∙ entries-run p _ 16 content_row_at count (at + 18)))

pub returns-in_err-entries : goal.returns-in_err-entries
returns-in_err-entries c =
    let p = err_from_is_err_and c.from_residual-in_err-entries.result c.from_residual-in_err-entries.ensures.1 in
    rw (p.1, p.2)
    (sym (counts _ _ _ _ _ c.if-size-lt-START.false (sym c.read_u32.ensures ∙ c.if-read_u32-ne0.false) c.read_u16-bytes.ensures c.read_u32-count.ensures (sym c.in_ok-check_framed.ensures)
    ∙ ap (add 1) (sym c.in_err-entries.ensures)))

pub overflow_add-result : goal.overflow_add-result
overflow_add-result c =
    let within = (framed-good _ _ c.args.section.size 18 _ (sym c.in_ok-check_framed.ensures)).within in
    let (rs, found, count) = taking-ok length _ _ (sym c.in_ok-entries.ensures) in
    omega (arith, within, entries-bound 16 _ _ content_row_at _ _ rs found, count, c.args.section.within, c.args.section.limited)

pub returns : goal.returns
returns c =
    sym (counts _ _ _ _ _ c.if-size-lt-START.false (sym c.read_u32.ensures ∙ c.if-read_u32-ne0.false) c.read_u16-bytes.ensures c.read_u32-count.ensures (sym c.in_ok-check_framed.ensures)
    ∙ ap (add 1) (sym c.in_ok-entries.ensures))
