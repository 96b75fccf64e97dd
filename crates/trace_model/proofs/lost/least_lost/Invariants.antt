use Rattle.std.proofs.Common.{◌≡◌, ◌+◌, drop}
use Rattle.trace_model.specs.Lost.{first_right}
use Rattle.trace_model.proofs.lost.least_lost.Given as goal

abbrev pub invariant-loop-lost : goal.invariant-loop-lost
invariant-loop-lost l = first_right l.looked ≡ l.lost + first_right (drop l.lost l.looked)
