use Rattle.std.proofs.Common.{subst}
use Rattle.ft_base.specs.declared.geometry.Geometry.{Geometry}
use Rattle.mapping.specs.Numbers.{AreNumbered}
use Rattle.merge_engine.proofs.LoadedLemmas.{roles_all}
use Rattle.merge_engine.proofs.loading.set_roles.Goals as goal

pub returns-clause-roles : goal.returns-clause-roles
returns-clause-roles c =
    let parts = c.args.parts.now in
    roles_all parts.geometry parts.map.entries c.loop-i.parts.pool c.numbers-i-end.result c.loop-i.i (subst (λ (h : Geometry). AreNumbered h parts.map.entries c.numbers-i-end.result) c.requires.of_one.map c.numbers-i-end.ensures.each) c.loop-i-test.false c.loop-i.invariant.roles
