use Rattle.std.proofs.Common.{◌≡◌, ◌-◌, ◌<◌}
use Rattle.sparse_map.specs.Home.{home}
use Rattle.sparse_map.specs.Plan.{first_unmarked}
use Rattle.sparse_map.proofs.plan.first_unmarked.Given as goal

abbrev pub invariant-loop-step : goal.invariant-loop-step
invariant-loop-step l = record {
  inside : l.bucket < l.buckets;
  left : first_unmarked l.buckets (l.buckets - l._step) l.bucket l.marks ≡ first_unmarked l.buckets l.buckets (home l.buckets l.key) l.marks;
}
