-- A first byte and the tails are there, or none is answered; and then each is asked.
use Rattle.std.proofs.Common.{rules, true, false, take}
use Rattle.std.specs.List.{list_all}
use Rattle.utf8.specs.Rfc3629.{to, tail, within}
use Rattle.utf8.proofs.After.{none-empty, none_short, by_bytes}
use Rattle.utf8.proofs.character.after.Goals as goal
use Rattle.utf8.proofs.character.after.Goals.{else-lies_in-via-then-lies_in+else-are_tails, else-lies_in-via-else-lies_in}

pub returns-in_err-first : goal.returns-in_err-first
returns-in_err-first g c = search (rules, none-empty (to c.args.low c.args.high) g.row.TAILS c.args.rest.now)

pub returns-in_err-tails : goal.returns-in_err-tails
returns-in_err-tails g c = search (rules, none_short (to c.args.low c.args.high) g.row.TAILS c.args.rest.now c.in_ok-first.first.now c.in_ok-first.others.now)

pub returns-then-are_tails : goal.returns-then-are_tails
returns-then-are_tails g c =
    search (rules, by_bytes (to c.args.low c.args.high) g.row.TAILS c.args.rest.now c.in_ok-first.first.now c.in_ok-first.others.now true true)

pub returns-else-lies_in : goal.returns-else-lies_in
returns-else-lies_in g c =
    let of = by_bytes (to c.args.low c.args.high) g.row.TAILS c.args.rest.now c.in_ok-first.first.now c.in_ok-first.others.now in
    elim c.else-lies_in.branch [
      | else-lies_in-via-then-lies_in+else-are_tails w ↦ search (rules, of true false)
      | else-lies_in-via-else-lies_in w ↦ search (rules, of false (list_all (within tail) (take g.row.TAILS c.in_ok-first.others.now)))
    ]
