-- `plain_end` meets its contract: the bytes before the one that `position` finds, or all of them, are ASCII and no NUL.
use Rattle.std.proofs.Common.{◌≡◌, ℕ, ◌+◌, ◌-◌, ◌<◌, ◌≤◌, List, Option, Some, None, take, drop, length, length-take, length-drop, arith, rules, tests}
use Rattle.std.specs.Option.{unwrap_or, MatchOption}
use Rattle.std.specs.List.{AllWithin, HoldsAt}
use lib.Seq.{get_or-take, get_or-drop}
use Rattle.std.proofs.lemmas.Iterator.{YieldsList-from_slice, IsFirst-from_position}
use Rattle.parse.proofs.arguments.plain_end.Goals as goal

abbrev Plain : ℕ → Type 0
Plain b = (0 < b) × (b < 0x80)

abbrev Stops : ℕ → Type 0
Stops b = Unit {0}

abbrev Found : List ℕ → Option ℕ → Type 0
Found run r = MatchOption r (AllWithin Plain run 0 (length run)) (λ i. (i < length run) × HoldsAt Stops run i × AllWithin Plain run 0 i)

-- the bytes before the one that was found, or all of them
before : (run : List ℕ) (r : Option ℕ) (n : ℕ) → Found run r → n ≡ unwrap_or r (length run) → (n ≤ length run) × AllWithin Plain run 0 n
before run None n h e = (omega (arith, e), rw e h)
before run (Some i) n h e = (omega (arith, e, h.0), rw e h.2)

found : (c : goal.After-unwrap_or) → Found (take (c.min-near.result - c.args.at) (drop c.args.at c.args.part.payload.now)) c.position-plain.result
found c =
    IsFirst-from_position _ _ c.position-plain.result Stops Plain c.position-plain.ensures.ran (YieldsList-from_slice _ cc) (λ x q k. tt)
    (λ x q k. search (rules, tests))

pub returns-clause-bounds : goal.returns-clause-bounds
returns-clause-bounds c =
    let short = (before _ _ _ (found c) c.unwrap_or.ensures).0 in
    omega (arith, short, c.min-near.ensures, length-take {A = ℕ}, length-drop {A = ℕ}, c.args.part.within)

pub returns-clause-plain : goal.returns-clause-plain
returns-clause-plain c k h l =
    let n : ℕ = c.min-near.result - c.args.at in
    let i : ℕ = k - c.args.at in
    let (short, all) = before _ _ _ (found c) c.unwrap_or.ensures in
    let inside : i < n = omega (arith, short, length-take {A = ℕ}) in
    let here : c.args.at + i ≡ k = omega arith in
    rw (get_or-take n (drop c.args.at c.args.part.payload.now) i 0 inside, get_or-drop c.args.at c.args.part.payload.now i 0, here) at
    (all i 0 (omega arith) (omega arith))
