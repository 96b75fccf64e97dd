use Rattle.std.proofs.Common.{length, ap, arith}
use Rattle.std.specs.FinMap.{entries}
use Rattle.mapping.proofs.TallyLemmas.{few_held}
use Rattle.mapping.proofs.map.Map.reserve.Goals as goal

pub reserve_pages-requires : goal.reserve_pages-requires
reserve_pages-requires c =
    let few = few_held c.self.inside.geometry c.self.inside.held.entries c.self.invariant.is_map in
    let room = c.self.invariant.few_pages in
    omega (arith, few, room)

pub reserve_blocks-requires : goal.reserve_blocks-requires
reserve_blocks-requires c =
    let few = few_held c.self.inside.geometry c.self.inside.held.entries c.self.invariant.is_map in
    let room = c.self.invariant.few_groups in
    let same = ap (λ m. length (entries m)) c.reserve_pages.ensures.entries in
    omega (arith, few, room, same)
