use Rattle.std.proofs.Common.{◌≡◌, ℕ, ◌<◌, ◌≤◌, slice_index_or, None}
use Rattle.bench_map.proofs.round.take_all.Given as goal

abbrev pub invariant-loop-key : goal.invariant-loop-key
invariant-loop-key g l = record {
  count : l.taken ≤ l.key-index;
  taken : (i : ℕ) → i < l.key-index → g.M.Measured.content l.map (slice_index_or l.keys i 0) ≡ None;
}
