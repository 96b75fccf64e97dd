use Rattle.std.proofs.Common.{refl}
use Rattle.write_back.proofs.VolumeLemmas.{back_done}
use Rattle.ft_volume.specs.Opening.{ImageIs}
use Rattle.ft_volume.specs.Volume.{Reads, opened_of}
use Rattle.ft_volume.proofs.UpLemmas.{asks_refused, asks_through, costs_through, costs_unopened, done_refused, goes_through}
use Rattle.cached_disk.specs.Kept.{Loads}
use Rattle.write_back.specs.Left.{state_of}
use Rattle.write_back.proofs.volume.WriteBackVolume.read.Goals as goal

pub returns-in-Ok-clause-disk : goal.returns-in-Ok-clause-disk
returns-in-Ok-clause-disk g c = back_done (Reads c.args.lba c.read.new.block) c.args.self.now c.bring_up.new.self (record { disk = c.read.new.self; dirty = c.bring_up.new.self.dirty }) (g.R.Media.state c.args.rig.now) (g.R.Media.state c.bring_up.new.media) (g.R.Media.state c.read.new.media) c.read.result
    c.in-Ok.ensures.comes c.bring_up.ensures.owes c.in-Ok.ensures.up refl c.read.ensures.serves.keeps c.read.ensures.serves.found (c.read.ensures.serves.goes c.bring_up.new.self.dirty.order)

pub returns-in-Ok-clause-goes : goal.returns-in-Ok-clause-goes
returns-in-Ok-clause-goes g c = goes_through ImageIs Loads (state_of c.args.self.now) (state_of c.bring_up.new.self) (state_of (record { disk = c.read.new.self; dirty = c.bring_up.new.self.dirty }))
    (g.R.Media.state c.args.rig.now) (g.R.Media.state c.bring_up.new.media) (g.R.Media.state c.read.new.media) tt c.in-Ok.ensures.comes c.read.result
    (c.read.ensures.serves.goes c.bring_up.new.self.dirty.order)

pub returns-in-Ok-clause-costs : goal.returns-in-Ok-clause-costs
returns-in-Ok-clause-costs g c = λ m has. costs_through ImageIs Loads (state_of c.args.self.now) (state_of c.bring_up.new.self)
    (state_of (record { disk = c.read.new.self; dirty = c.bring_up.new.self.dirty })) (g.R.Media.state c.args.rig.now) (g.R.Media.state c.bring_up.new.media) (g.R.Media.state c.read.new.media)
    tt c.in-Ok.ensures.comes c.read.result (Reads c.args.lba c.read.new.block) m has (c.read.ensures.costs c.bring_up.new.self.dirty.order)

pub returns-in-Err-clause-disk : goal.returns-in-Err-clause-disk
returns-in-Err-clause-disk g c = λ owed owes. (owed, c.bring_up.ensures.owes owed owes, done_refused ImageIs Loads (Reads c.args.lba c.args.block.now) (state_of c.args.self.now) (state_of c.bring_up.new.self) owed owed (g.R.Media.state c.args.rig.now) (g.R.Media.state c.bring_up.new.media) c.in-Err.error c.in-Err.ensures.comes)

pub returns-in-Ok-clause-asks : goal.returns-in-Ok-clause-asks
returns-in-Ok-clause-asks g c = λ m has. asks_through ImageIs Loads (state_of c.args.self.now) (state_of c.bring_up.new.self) (state_of (record { disk = c.read.new.self; dirty = c.bring_up.new.self.dirty })) (g.R.Media.state c.args.rig.now)
    (g.R.Media.state c.bring_up.new.media) (g.R.Media.state c.read.new.media) tt c.in-Ok.ensures.comes c.read.result (Reads c.args.lba c.read.new.block) m has (c.read.ensures.asks c.bring_up.new.self.dirty.order)

pub returns-in-Err-clause-asks : goal.returns-in-Err-clause-asks
returns-in-Err-clause-asks g c = λ m has. asks_refused ImageIs Loads (Reads c.args.lba c.args.block.now) (state_of c.args.self.now) (state_of c.bring_up.new.self) (opened_of (state_of c.args.self.now) m) (g.R.Media.state c.args.rig.now) (g.R.Media.state c.bring_up.new.media)
    c.in-Err.error c.in-Err.ensures.comes

pub returns-in-Err-clause-costs : goal.returns-in-Err-clause-costs
returns-in-Err-clause-costs g c = λ m has. costs_unopened ImageIs Loads (Reads c.args.lba c.args.block.now) (state_of c.args.self.now) (state_of c.bring_up.new.self) (opened_of (state_of c.args.self.now) m) (g.R.Media.state c.args.rig.now) (g.R.Media.state c.bring_up.new.media)
    c.in-Err.error c.in-Err.ensures.comes
