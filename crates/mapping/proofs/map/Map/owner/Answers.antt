use Rattle.std.proofs.Common.{true, sym, ◌∙◌}
use Rattle.mapping.proofs.PageFits.{pool_is}
use Rattle.mapping.proofs.SeekingLemmas.{owner_some}
use Rattle.mapping.proofs.map.Map.owner.Goals as goal

pub returns-clause-owner : goal.returns-clause-owner
returns-clause-owner c = rw (← c.self.view_is) (owner_some c.self.inside.geometry c.self.inside.held.entries c.self.invariant.is_map c.self.inside.index.owners.items c.self.invariant.index.owners
    c.args.at (pool_is c.self.inside.geometry c.self.inside.held.entries c.self.invariant.is_map 0 c.args.at true (sym c.is_in_pool.ensures ∙ c.if-not-is_in_pool.false))
    c.owner.result c.owner.ensures)
