use Rattle.std.proofs.Common.{◌≤◌}
use Rattle.bench_map.proofs.churn.turn_over.Given as goal

abbrev pub invariant-loop-step : goal.invariant-loop-step
invariant-loop-step g l = l.found ≤ l.step
