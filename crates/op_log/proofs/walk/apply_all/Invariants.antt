use Rattle.op_log.proofs.ApplyLemmas.{AppliedWithRoom}
use Rattle.op_log.proofs.walk.apply_all.Given as goal

-- the records so far
abbrev pub invariant-loop-change : goal.invariant-loop-change
invariant-loop-change l = AppliedWithRoom l.changes l.change-index l.fn.map l.map
