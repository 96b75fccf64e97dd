use Rattle.op_log.proofs.ApplyLemmas.{AppliedSoFar}
use Rattle.recovery.proofs.plain.applying.apply_records.Given as goal

-- the records so far
abbrev pub invariant-loop-change : goal.invariant-loop-change
invariant-loop-change l = AppliedSoFar l.changes l.change-index l.fn.map l.map
