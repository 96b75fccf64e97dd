use Rattle.std.proofs.Common.{rules, sym, subst}
use Rattle.ft_base.specs.declared.geometry.Geometry.{Geometry}
use Rattle.block_pool.specs.Pool.{IsInPool}
use Rattle.test_cache.proofs.parts.is_used.Goals as goal

pub role-requires : goal.role-requires
role-requires c =
    let here : IsInPool c.args.parts.now.geometry c.args.block = search rules in
    subst (λ (g : Geometry). IsInPool g c.args.block) (sym c.requires.pool) here
