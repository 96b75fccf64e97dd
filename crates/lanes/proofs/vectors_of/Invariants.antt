use Rattle.std.proofs.Common.{◌≤◌, ◌-◌, length, take}
use Rattle.lanes.specs.Kernels.{IsEach}
use Rattle.lanes.proofs.vectors_of.Given as goal

abbrev pub invariant-loop-done : goal.invariant-loop-done
invariant-loop-done l = record { within : l.done ≤ length l.bytes; each : IsEach l.byte (take l.done l.bytes) }

abbrev pub decreases-loop-done : goal.decreases-loop-done
decreases-loop-done l = length l.bytes - l.done
