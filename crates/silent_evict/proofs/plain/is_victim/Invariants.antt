use Rattle.silent_evict.proofs.PlainLemmas.{LeastSoFar}
use Rattle.silent_evict.proofs.plain.is_victim.Given as goal

-- no candidate among the groups so far has fewer pages
abbrev pub invariant-loop-i : goal.invariant-loop-i
invariant-loop-i l = LeastSoFar l.map.geometry l.map.entries l.group l.i
