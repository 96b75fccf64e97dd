use Rattle.std.proofs.Common.{◌≡◌, ◌≤◌, ◌-◌, length, take, drop}
use Rattle.lanes.specs.Kernels.{xor_of}
use Rattle.lanes.proofs.xor_vectors.Given as goal

abbrev pub invariant-loop-to : goal.invariant-loop-to
invariant-loop-to l = record {
  within : l.done ≤ length l.to;
  front : take l.done l.to ≡ xor_of (take l.done l.fn.to) (take l.done l.from);
  back : drop l.done l.to ≡ drop l.done l.fn.to;
}

abbrev pub decreases-loop-to : goal.decreases-loop-to
decreases-loop-to l = length l.initial.to - l.done
