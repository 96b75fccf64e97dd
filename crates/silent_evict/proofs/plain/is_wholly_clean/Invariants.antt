use Rattle.silent_evict.proofs.PlainLemmas.{CleanSoFar}
use Rattle.silent_evict.proofs.plain.is_wholly_clean.Given as goal

-- the entries of the group so far are clean
abbrev pub invariant-loop-i : goal.invariant-loop-i
invariant-loop-i l = CleanSoFar l.map.geometry l.map.entries l.group l.i l.held
