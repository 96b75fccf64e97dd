use Rattle.mapping.proofs.PackedLemmas.{block_found, block_not_found}
use Rattle.mapping.proofs.held.Held.block_of.Goals as goal

pub returns-clause-some : goal.returns-clause-some
returns-clause-some c = rw (← c.self.view_is) (block_found c.self.inside.geometry _ _ c.self.invariant.are_blocks c.self.invariant.apart c.args.group c.block_at.result c.block_at.ensures)

pub returns-clause-none : goal.returns-clause-none
returns-clause-none c = rw (← c.self.view_is) (block_not_found c.self.inside.geometry _ _ c.self.invariant.are_blocks c.self.invariant.apart c.args.group c.block_at.result c.block_at.ensures)
