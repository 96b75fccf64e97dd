use Rattle.std.proofs.Common.{sym, ap, subst}
use Rattle.ft_base.specs.declared.geometry.Geometry.{Geometry}
use Rattle.ft_base.specs.declared.block.Place.{Place}
use Rattle.mapping.specs.Numbers.{HasNone, HasNumber}
use Rattle.block_pool.specs.Pool.{IsInPool}
use Rattle.merge_engine.proofs.LoadedLemmas.{roles_more, roles_same}
use Rattle.merge_engine.proofs.loading.set_role_at.Goals as goal

pub set_role-requires : goal.set_role-requires
set_role-requires c =
    let parts = c.args.parts.now in
    let owns = c.in-Some.ensures.some.owns in
    let pool = c.requires.map.in_pool c.in-Some.lba owns.0 owns.1 in
    subst (λ (g : Geometry). IsInPool g c.in-Some.at.block) (sym c.requires.of_one.pool) (subst (IsInPool parts.geometry) (ap (λ (p : Place). p.block) owns.2) (pool.above, pool.below))

pub returns-in_default-clause-roles : goal.returns-in_default-clause-roles
returns-in_default-clause-roles c =
    let parts = c.args.parts.now in
    roles_same parts.geometry parts.map.entries parts.pool c.args.i (subst (λ (h : Geometry). HasNone h parts.map.entries c.args.i) c.requires.of_one.map c.in_default.ensures.none)

pub returns-clause-roles : goal.returns-clause-roles
returns-clause-roles c =
    let parts = c.args.parts.now in
    roles_more parts.geometry parts.map.entries parts.pool c.set_role.new.self c.args.i c.in-Some.lba c.in-Some.at c.role_at-role.result c.requires.map c.requires.of_one.pool
    (subst (λ (h : Geometry). HasNumber h parts.map.entries c.args.i (c.in-Some.lba, c.in-Some.at)) c.requires.of_one.map c.in-Some.ensures.some) c.role_at-role.ensures c.set_role.ensures.role c.set_role.ensures.others
