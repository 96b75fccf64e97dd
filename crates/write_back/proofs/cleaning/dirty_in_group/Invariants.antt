use Rattle.cached_disk.specs.Kept.{dirty_of}
use Rattle.write_back.proofs.GroupLemmas.{GroupSoFar}
use Rattle.write_back.proofs.cleaning.dirty_in_group.Given as goal

-- the pages so far
abbrev pub invariant-loop-page : goal.invariant-loop-page
invariant-loop-page l = GroupSoFar l.disk.options.geometry.p l.group l.page (dirty_of l.disk) l.lbas.items
