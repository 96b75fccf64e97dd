use Rattle.std.proofs.Common.{◌<◌, ◌≤◌, ℕ, get_or}
use Rattle.lanes.proofs.plain.least.Given as goal

abbrev pub invariant-loop-i : goal.invariant-loop-i
invariant-loop-i l = record {
  within : l.place < l.i;
  least : (k : ℕ) → k < l.i → get_or l.counts l.place 0 ≤ get_or l.counts k 0;
  first : (k : ℕ) → k < l.place → get_or l.counts l.place 0 < get_or l.counts k 0;
}
