use Rattle.std.proofs.Common.{ap, subst, true}
use Rattle.ft_base.specs.Told.{Told}
use Rattle.ft_base.specs.declared.geometry.Geometry.{Geometry}
use Rattle.ft_base.specs.declared.power.Outcome.TheVariants.{Torn}
use Rattle.op_log.specs.Log.{FitsOn}
use Rattle.mem_rig.specs.Rig.{state_of}
use Rattle.cached_disk.proofs.OpenedLemmas.{left_off}
use Rattle.test_volumes.proofs.BackLemmas.{left_may_open}
use Rattle.test_volumes.proofs.back.reopened.Goals as goal

pub open-requires-clause-shape : goal.open-requires-clause-shape
open-requires-clause-shape c =
    let on = state_of c.power_on.new.self in
    let left = left_off c.args.volume.now.disk (state_of c.args.rig.now) (state_of c.cut.new.self) on Torn c.requires.owns.disk c.cut.ensures.cut c.power_on.ensures.on in
    subst (λ (g : Geometry). FitsOn g on.contents.shape) (ap (λ (t : Told). t.geometry) c.requires.told) left.shape

pub open-requires-clause-agrees : goal.open-requires-clause-agrees
open-requires-clause-agrees c =
    let v = c.args.volume.now.disk in
    let on = state_of c.power_on.new.self in
    let left = left_off v (state_of c.args.rig.now) (state_of c.cut.new.self) on Torn c.requires.owns.disk c.cut.ensures.cut c.power_on.ensures.on in
    left_may_open (record v { down = true }) on.contents c.args.options.now left (ap (λ (t : Told). t.geometry) c.requires.told)
