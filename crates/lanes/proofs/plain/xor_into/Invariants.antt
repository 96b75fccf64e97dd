use Rattle.std.proofs.Common.{◌≡◌, ◌<◌, ◌≤◌, ℕ, get_or, bit_xor}
use Rattle.lanes.proofs.plain.xor_into.Given as goal

abbrev pub invariant-loop-i : goal.invariant-loop-i
invariant-loop-i l = record {
  below : (k : ℕ) → k < l.i → get_or l.to k 0 ≡ bit_xor (get_or l.fn.to k 0) (get_or l.from k 0);
  above : (k : ℕ) → l.i ≤ k → get_or l.to k 0 ≡ get_or l.fn.to k 0;
}
