-- The loop's invariant: what holds where no fault is found holds of the blocks that were passed.
use Rattle.std.proofs.Common.{◌≡◌, ℕ, ◌+◌, ◌-◌, ◌<◌, ◌≤◌, Bool, true, false}
use Rattle.validate.proofs.blocks.blocks_end.Given as goal

abbrev pub invariant-loop-end : goal.invariant-loop-end
invariant-loop-end g l =
    (l.at ≤ l.end)
    × (l.end ≤ l.length)
    × ((holds : ℕ → Bool) → ((k : ℕ) → k < l.at → holds k ≡ true) → ((i : ℕ) → l.at ≤ i → i + g.row.SIZE ≤ l.length → goal.F-post g l.has_fault i false → (k : ℕ) → k < g.row.SIZE → holds (i + k) ≡ true) → (k : ℕ) → k < l.end → holds k ≡ true)

abbrev pub decreases-loop-end : goal.decreases-loop-end
decreases-loop-end g l = l.length - l.end
