use Rattle.std.proofs.Common.{◌≡◌, [], drop}
use Rattle.trace_model.specs.Lost.{look_right}
use Rattle.trace_model.proofs.SearchLemmas.{with_lbas}
use Rattle.trace_model.proofs.lost.looks_right.Given as goal

abbrev pub invariant-loop-i : goal.invariant-loop-i
invariant-loop-i l = look_right [] l.looked ≡ look_right (with_lbas l.i l.looked []) (drop l.i l.looked)
