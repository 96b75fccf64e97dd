use Rattle.std.proofs.Common.{◌≤◌, ◌≢◌, ◌-◌, length, take}
use Rattle.std.specs.List.{All}
use Rattle.lanes.proofs.vectors_without.Given as goal

abbrev pub invariant-loop-done : goal.invariant-loop-done
invariant-loop-done l = record {
  within : l.done ≤ length l.counts;
  none : All (λ count. count ≢ l.value) (take l.done l.counts);
}

abbrev pub decreases-loop-done : goal.decreases-loop-done
decreases-loop-done l = length l.counts - l.done
