use Rattle.std.proofs.Common.{◌<◌, ◌^◌, arith, rules, subst}
use Rattle.ft_base.specs.declared.geometry.Geometry.{Geometry}
use Rattle.mapping.specs.Checkpoint.{IsCheckpointOf}
use Rattle.mapping.proofs.TallyLemmas.{records_few}
use Rattle.mapping.proofs.map.Map.checkpoint_len.Goals as goal

pub overflow_cast-result : goal.overflow_cast-result
overflow_cast-result c =
    let listing = subst (λ (g : Geometry). IsCheckpointOf g c.self.inside.held.entries c.self.inside.held.records) c.self.invariant.geometry c.checkpoint_len.ensures.listing in
    let few = records_few c.self.inside.geometry c.self.inside.held.entries c.self.inside.held.records c.self.invariant.is_map listing in
    let small : c.checkpoint_len.result < 2 ^ 32 = omega (arith, few, c.checkpoint_len.ensures.count) in
    search rules
