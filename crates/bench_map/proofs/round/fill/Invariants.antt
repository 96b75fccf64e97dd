use Rattle.std.proofs.Common.{◌≡◌, ℕ, ◌<◌, slice_index_or, Some}
use Rattle.bench_map.proofs.round.fill.Given as goal

abbrev pub invariant-loop-key : goal.invariant-loop-key
invariant-loop-key g l = (i : ℕ) → i < l.key-index → g.M.Measured.content l.map (slice_index_or l.keys i 0) ≡ Some (slice_index_or l.keys i 0)
