use Rattle.mem_rig.specs.Rig.{state_of}
use Rattle.mem_rig.proofs.MediaLemmas.{cut_between}
use Rattle.mem_rig.proofs.media.MemRigRig.cut.Goals as goal

pub returns-clause-cut : goal.returns-clause-cut
returns-clause-cut c = cut_between (state_of c.args.self.now) (state_of c.cut_power.new.self) c.args.outcome c.cut_power.ensures.state
