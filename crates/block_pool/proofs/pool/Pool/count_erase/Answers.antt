use Rattle.std.proofs.Common.{ap, ◌∙◌}
use Rattle.ft_base.specs.Count.{bumped}
use Rattle.block_pool.specs.declared.pool.PoolBlock.{PoolBlock}
use Rattle.block_pool.proofs.PoolLemmas.{AreFieldsOf, pool_block-read, pool_block-with_same, pool_block-with_other, part-with}
use Rattle.block_pool.proofs.pool.Pool.count_erase.Goals as goal

pub returns-clause-roles : goal.returns-clause-roles
returns-clause-roles c =
    let are : AreFieldsOf c.args.self.now c.self.inside = record { value = c.self.view_is; first = c.self.invariant.0; count = c.self.invariant.1 } in
    let role = λ (b : PoolBlock). b.role in
    part-with c.args.self.now c.self.inside are c.args.block c.requires role _ (ap role (pool_block-read c.args.self.now c.self.inside are c.args.block c.requires c.index_mut-erased.result.now c.index_mut-erased.ensures.value))

pub returns-clause-erases : goal.returns-clause-erases
returns-clause-erases c =
    let are : AreFieldsOf c.args.self.now c.self.inside = record { value = c.self.view_is; first = c.self.invariant.0; count = c.self.invariant.1 } in
    let was = pool_block-read c.args.self.now c.self.inside are c.args.block c.requires c.index_mut-erased.result.now c.index_mut-erased.ensures.value in
    record {
      this =
          ap (λ (b : PoolBlock). b.erases) (pool_block-with_same c.args.self.now c.self.inside are c.args.block c.requires _) ∙ c.bump-erased.ensures.bumped
          ∙ ap (λ (b : PoolBlock). bumped b.erases) was;
      others = λ other in_pool apart.
          ap (λ (b : PoolBlock). b.erases) (pool_block-with_other c.args.self.now c.self.inside are c.args.block other _ c.requires in_pool apart);
    }
