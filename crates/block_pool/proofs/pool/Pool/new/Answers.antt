use Rattle.std.proofs.Common.{ap}
use Rattle.block_pool.specs.declared.pool.PoolBlock.{PoolBlock}
use Rattle.block_pool.proofs.PoolLemmas.{pool_block-replicate}
use Rattle.block_pool.proofs.pool.Pool.new.Goals as goal

pub returns-clause-free : goal.returns-clause-free
returns-clause-free c = λ b in_pool. (in_pool, ap (λ (b : PoolBlock). b.role) (pool_block-replicate c.args.geometry.now c.in_ok-blocks.blocks.items _ b (c.in_ok-blocks.ensures.items_if_clones_equal (λ y same. same))))

pub returns-clause-unerased : goal.returns-clause-unerased
returns-clause-unerased c = λ b in_pool. ap (λ (b : PoolBlock). b.erases) (pool_block-replicate c.args.geometry.now c.in_ok-blocks.blocks.items _ b (c.in_ok-blocks.ensures.items_if_clones_equal (λ y same. same)))
