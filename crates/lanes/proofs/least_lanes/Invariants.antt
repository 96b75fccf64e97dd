use Rattle.std.proofs.Common.{◌≡◌, ◌≤◌, ◌-◌, length, take}
use Rattle.lanes.specs.Kernels.{least_of}
use Rattle.lanes.proofs.least_lanes.Given as goal

abbrev pub invariant-loop-done : goal.invariant-loop-done
invariant-loop-done l = record {
  within : l.done ≤ length l.counts;
  wide : length l.lanes ≡ 8;
  least : least_of l.lanes ≡ least_of (take l.done l.counts);
}

abbrev pub decreases-loop-done : goal.decreases-loop-done
decreases-loop-done l = length l.counts - l.done
