use Rattle.std.proofs.Common.{ℕ, ap}
use Rattle.block_pool.specs.declared.pool.PoolBlock.{PoolBlock}
use Rattle.block_pool.proofs.PoolLemmas.{AreFieldsOf, pool_block-read, pool_block-with_same, pool_block-with_other, part-with}
use Rattle.block_pool.proofs.pool.Pool.set_role.Goals as goal

pub returns-clause-role : goal.returns-clause-role
returns-clause-role c =
    let are : AreFieldsOf c.args.self.now c.self.inside = record { value = c.self.view_is; first = c.self.invariant.0; count = c.self.invariant.1 } in
    ap (λ (b : PoolBlock). b.role) (pool_block-with_same c.args.self.now c.self.inside are c.args.block c.requires _)

pub returns-clause-others : goal.returns-clause-others
returns-clause-others c = λ b in_pool apart.
    let are : AreFieldsOf c.args.self.now c.self.inside = record { value = c.self.view_is; first = c.self.invariant.0; count = c.self.invariant.1 } in
    ap (λ (b : PoolBlock). b.role) (pool_block-with_other c.args.self.now c.self.inside are c.args.block b _ c.requires in_pool apart)

pub returns-clause-erases : goal.returns-clause-erases
returns-clause-erases c =
    let are : AreFieldsOf c.args.self.now c.self.inside = record { value = c.self.view_is; first = c.self.invariant.0; count = c.self.invariant.1 } in
    let erases : PoolBlock → ℕ = λ b. b.erases in
    part-with c.args.self.now c.self.inside are c.args.block c.requires erases _ (ap erases (pool_block-read c.args.self.now c.self.inside are c.args.block c.requires c.index_mut.result.now c.index_mut.ensures.value))
