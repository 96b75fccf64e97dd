use Rattle.std.proofs.Common.{◌∙◌, subst}
use Rattle.ft_base.specs.Told.{Told}
use Rattle.ft_base.specs.declared.told.Mode.TheVariants.{Through}
use Rattle.ft_volume.specs.Volume.{told_for}
use Rattle.op_log.specs.Log.{FitsOn}
use Rattle.mem_rig.specs.Rig.{state_of}
use Rattle.test_volumes.proofs.ThroughLemmas.{left_may_open}
use Rattle.test_volumes.proofs.through.reopened.Goals as goal

pub open-requires-clause-shape : goal.open-requires-clause-shape
open-requires-clause-shape c = subst (λ (t : Told). FitsOn t.geometry (state_of c.cut.new.rig).contents.shape) (c.cut.ensures.told ∙ c.requires.told) c.cut.ensures.owns.disk.shape

pub open-requires-clause-agrees : goal.open-requires-clause-agrees
open-requires-clause-agrees c = left_may_open c.cut.new.self.disk (state_of c.cut.new.rig).contents (told_for Through c.args.options.now) c.cut.ensures.owns.disk (c.cut.ensures.told ∙ c.requires.told)
