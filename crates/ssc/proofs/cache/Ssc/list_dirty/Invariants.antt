use Rattle.ssc.proofs.ListedLemmas.{ListedSoFar}
use Rattle.ssc.proofs.cache.Ssc.list_dirty.Given as goal

-- the addresses of the entries so far were added
abbrev pub invariant-loop-i : goal.invariant-loop-i
invariant-loop-i l = ListedSoFar l.self.parts.map.geometry l.self.parts.map.entries l.from l.end l.i l.initial.out.items l.out.items
