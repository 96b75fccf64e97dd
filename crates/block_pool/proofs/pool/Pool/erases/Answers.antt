use Rattle.std.proofs.Common.{ap}
use Rattle.block_pool.specs.declared.pool.PoolBlock.{PoolBlock}
use Rattle.block_pool.proofs.PoolLemmas.{AreFieldsOf, pool_block-read}
use Rattle.block_pool.proofs.pool.Pool.erases.Goals as goal

pub returns : goal.returns
returns c =
    let are : AreFieldsOf c.args.self.now c.self.inside = record { value = c.self.view_is; first = c.self.invariant.0; count = c.self.invariant.1 } in
    ap (λ (b : PoolBlock). b.erases) (pool_block-read c.args.self.now c.self.inside are c.args.block c.requires c.index.result.now c.index.ensures)
