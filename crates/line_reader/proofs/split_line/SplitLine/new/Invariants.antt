-- The loop of `new`: the ends before its index are found, the others are the line's end, and the next part starts inside the line.
use Rattle.std.proofs.Common.{◌≡◌, ℕ, ◌<◌, ◌≤◌, length, get_or}
use Rattle.line_reader.specs.Ends.{part_end, end_from}
use Rattle.line_reader.proofs.split_line.SplitLine.new.Given as goal

abbrev pub invariant-loop-end : goal.invariant-loop-end
invariant-loop-end l = record {
  within : l.start ≤ length l.line;
  next : part_end l.line l.start ≡ end_from l.line 0 l.end-index;
  found : (k : ℕ) → k < l.end-index → get_or l.end-items k 0 ≡ end_from l.line 0 k;
  rest : (k : ℕ) → l.end-index ≤ k → k < 5 → get_or l.end-items k 0 ≡ length l.line;
}
