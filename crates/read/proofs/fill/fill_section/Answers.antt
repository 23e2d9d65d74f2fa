-- `fill_section` meets its contract: its own row, and those of what it holds, are the rows of the walk.
use Rattle.std.proofs.Common.{rules, tests}
use Rattle.read.proofs.Filling.{contents-walked, names-walked, pairs-walked, rest-fits, rest-filled}
use Rattle.read.proofs.fill.fill_section.Goals as goal

pub fill_rows-requires-clause-index_bound : goal.fill_rows-requires-clause-index_bound
fill_rows-requires-clause-index_bound c =
    (tt, rest-fits _ _ _ (contents-walked _ _ _ _ c.in-Contents.ensures) c.store_row-next.ensures.value c.map.ensures.source c.requires)

pub returns-in-Contents : goal.returns-in-Contents
returns-in-Contents c =
    let own = c.store_row-next.ensures in
    let map = c.map.ensures in
    let (value, rows_after) =
    rest-filled _ _ _ (contents-walked _ _ _ _ c.in-Contents.ensures) own.value _ c.fill_rows.ensures.filled map.source map.closure (λ x r q k. search (rules, tests))
    (cc (own.rows_after, c.plain_contents.ensures, c.header_field.ensures)) in
    record { value = value; rows_after = rows_after }

pub fill_rows-requires-in-Names-clause-index_bound : goal.fill_rows-requires-in-Names-clause-index_bound
fill_rows-requires-in-Names-clause-index_bound c =
    (tt, rest-fits _ _ _ (names-walked _ _ _ _ c.in-Names.ensures) c.store_row-next-in-Names.ensures.value c.map-in-Names.ensures.source c.requires)

pub returns-in-Names : goal.returns-in-Names
returns-in-Names c =
    let own = c.store_row-next-in-Names.ensures in
    let map = c.map-in-Names.ensures in
    let (value, rows_after) =
    rest-filled _ _ _ (names-walked _ _ _ _ c.in-Names.ensures) own.value _ c.fill_rows-in-Names.ensures.filled map.source map.closure (λ x r q k. search (rules, tests))
    (cc (own.rows_after, c.names.ensures)) in
    record { value = value; rows_after = rows_after }

pub fill_rows-requires-in-Arguments-clause-index_bound : goal.fill_rows-requires-in-Arguments-clause-index_bound
fill_rows-requires-in-Arguments-clause-index_bound c =
    (tt, rest-fits _ _ _ (pairs-walked _ _ _ _ c.in-Arguments.ensures) c.store_row-next-in-Arguments.ensures.value c.map-in-Arguments.ensures.source c.requires)

pub returns-in-Arguments : goal.returns-in-Arguments
returns-in-Arguments c =
    let own = c.store_row-next-in-Arguments.ensures in
    let map = c.map-in-Arguments.ensures in
    let (value, rows_after) =
    rest-filled _ _ _ (pairs-walked _ _ _ _ c.in-Arguments.ensures) own.value _ c.fill_rows-in-Arguments.ensures.filled map.source map.closure (λ x r q k. search (rules, tests))
    (cc (own.rows_after, c.arguments.ensures)) in
    record { value = value; rows_after = rows_after }
