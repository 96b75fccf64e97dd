use Rattle.std.proofs.Common.{sym, ap, subst, arith}
use Rattle.std.proofs.lemmas.List.{get_or_default}
use Rattle.mapping.specs.DirtyGroups.{DirtyCounts, IsCounted}
use Rattle.mapping.proofs.DirtyLemmas.{count_here, none_here}
use Rattle.mapping.proofs.dirty.DirtyGroups.count.Goals as goal

-- the group is at its place, and the pair there is the one that was read
pub returns-in-Ok : goal.returns-in-Ok
returns-in-Ok c =
    let pairs = ap (λ (d : DirtyCounts). d.pairs) c.self.view_is in
    let value = count_here _ (subst IsCounted pairs c.self.invariant) _ _ c.in-Ok.ensures.found in
    let read = get_or_default _ _ c.index.result.now (0, 0) c.in-Ok.ensures.found.within in
    grind (arith, pairs)

pub returns-in-Err : goal.returns-in-Err
returns-in-Err c = sym (none_here _ _ _ c.in-Err.ensures.absent)
