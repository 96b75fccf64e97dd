use Rattle.ft_volume.specs.Opening.{ImageIs}
use Rattle.ft_volume.specs.Volume.{Writes, opened_of}
use Rattle.ft_volume.proofs.UpLemmas.{asks_refused, asks_through, costs_through, costs_unopened, done_refused, done_through, goes_through, programs_through}
use Rattle.cached_disk.specs.Kept.{Loads}
use Rattle.write_back.specs.Left.{state_of}
use Rattle.write_back.proofs.volume.WriteBackVolume.write.Goals as goal

pub returns-in-Ok-clause-disk : goal.returns-in-Ok-clause-disk
returns-in-Ok-clause-disk g c = λ owed owes.
    let at = c.write_up.ensures.does owed (c.bring_up.ensures.owes owed owes) in (
      at.0,
      at.1,
      done_through ImageIs Loads (state_of c.args.self.now) (state_of c.bring_up.new.self) (state_of c.write_up.new.self) (g.R.Media.state c.args.rig.now) (g.R.Media.state c.bring_up.new.media) (g.R.Media.state c.write_up.new.media) tt c.in-Ok.ensures.comes c.write_up.result
          (Writes c.args.lba c.args.block.now) owed at.0 at.2,
    )

pub returns-in-Ok-clause-goes : goal.returns-in-Ok-clause-goes
returns-in-Ok-clause-goes g c = goes_through ImageIs Loads (state_of c.args.self.now) (state_of c.bring_up.new.self) (state_of c.write_up.new.self) (g.R.Media.state c.args.rig.now)
    (g.R.Media.state c.bring_up.new.media) (g.R.Media.state c.write_up.new.media) tt c.in-Ok.ensures.comes c.write_up.result c.write_up.ensures.steps.goes

pub returns-in-Ok-clause-programs : goal.returns-in-Ok-clause-programs
returns-in-Ok-clause-programs g c = programs_through ImageIs Loads (state_of c.args.self.now) (state_of c.bring_up.new.self) (state_of c.write_up.new.self) (g.R.Media.state c.args.rig.now)
    (g.R.Media.state c.bring_up.new.media) (g.R.Media.state c.write_up.new.media) tt c.in-Ok.ensures.comes c.write_up.result c.write_up.ensures.programs

pub returns-in-Err-clause-disk : goal.returns-in-Err-clause-disk
returns-in-Err-clause-disk g c = λ owed owes. (owed, c.bring_up.ensures.owes owed owes, done_refused ImageIs Loads (Writes c.args.lba c.args.block.now) (state_of c.args.self.now) (state_of c.bring_up.new.self) owed owed (g.R.Media.state c.args.rig.now) (g.R.Media.state c.bring_up.new.media) c.in-Err.error c.in-Err.ensures.comes)

pub returns-in-Ok-clause-asks : goal.returns-in-Ok-clause-asks
returns-in-Ok-clause-asks g c = λ m has. asks_through ImageIs Loads (state_of c.args.self.now) (state_of c.bring_up.new.self) (state_of c.write_up.new.self) (g.R.Media.state c.args.rig.now)
    (g.R.Media.state c.bring_up.new.media) (g.R.Media.state c.write_up.new.media) tt c.in-Ok.ensures.comes c.write_up.result (Writes c.args.lba c.args.block.now) m has c.write_up.ensures.asks

pub returns-in-Err-clause-asks : goal.returns-in-Err-clause-asks
returns-in-Err-clause-asks g c = λ m has. asks_refused ImageIs Loads (Writes c.args.lba c.args.block.now) (state_of c.args.self.now) (state_of c.bring_up.new.self) (opened_of (state_of c.args.self.now) m) (g.R.Media.state c.args.rig.now) (g.R.Media.state c.bring_up.new.media)
    c.in-Err.error c.in-Err.ensures.comes

pub returns-in-Err-clause-costs : goal.returns-in-Err-clause-costs
returns-in-Err-clause-costs g c = λ m has. costs_unopened ImageIs Loads (Writes c.args.lba c.args.block.now) (state_of c.args.self.now) (state_of c.bring_up.new.self) (opened_of (state_of c.args.self.now) m) (g.R.Media.state c.args.rig.now) (g.R.Media.state c.bring_up.new.media)
    c.in-Err.error c.in-Err.ensures.comes

pub returns-in-Ok-clause-costs : goal.returns-in-Ok-clause-costs
returns-in-Ok-clause-costs g c = λ m has. costs_through ImageIs Loads (state_of c.args.self.now) (state_of c.bring_up.new.self) (state_of c.write_up.new.self) (g.R.Media.state c.args.rig.now)
    (g.R.Media.state c.bring_up.new.media) (g.R.Media.state c.write_up.new.media) tt c.in-Ok.ensures.comes c.write_up.result (Writes c.args.lba c.args.block.now) m has c.write_up.ensures.costs
