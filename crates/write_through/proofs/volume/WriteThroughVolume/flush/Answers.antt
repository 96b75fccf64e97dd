use Rattle.write_through.proofs.VolumeLemmas.{through_done}
use Rattle.std.proofs.lemmas.Result.{on_ok_weaker}
use Rattle.std.proofs.Common.{refl, [], ap, length}
use Rattle.ft_volume.specs.Opening.{ImageIs}
use Rattle.ft_volume.specs.Volume.{Flushes, opened_of}
use Rattle.ft_volume.proofs.UpLemmas.{asks_refused, asks_through, costs_through, costs_unopened, done_refused, goes_through}
use Rattle.cached_disk.specs.Kept.{Loads, state_in}
use Rattle.write_through.specs.Left.{state_of}
use Rattle.write_through.proofs.volume.WriteThroughVolume.flush.Goals as goal

pub returns-in-Ok-clause-disk : goal.returns-in-Ok-clause-disk
returns-in-Ok-clause-disk g c = through_done Flushes c.args.self.now.disk c.bring_up.new.self.disk c.flush.new.self (g.R.Media.state c.args.rig.now) (g.R.Media.state c.bring_up.new.media) (g.R.Media.state c.flush.new.media) c.flush.result
    c.in-Ok.ensures.comes c.bring_up.ensures.left.mode c.bring_up.ensures.left.disk c.in-Ok.ensures.up refl c.flush.ensures.serves

pub returns-in-Ok-clause-goes : goal.returns-in-Ok-clause-goes
returns-in-Ok-clause-goes g c = goes_through ImageIs Loads (state_of c.args.self.now) (state_of c.bring_up.new.self) (state_in [] c.flush.new.self) (g.R.Media.state c.args.rig.now)
    (g.R.Media.state c.bring_up.new.media) (g.R.Media.state c.flush.new.media) tt c.in-Ok.ensures.comes c.flush.result (c.flush.ensures.serves.goes [])

pub returns-in-Ok-clause-costs : goal.returns-in-Ok-clause-costs
returns-in-Ok-clause-costs g c = λ m has. costs_through ImageIs Loads (state_of c.args.self.now) (state_of c.bring_up.new.self) (state_in [] c.flush.new.self) (g.R.Media.state c.args.rig.now)
    (g.R.Media.state c.bring_up.new.media) (g.R.Media.state c.flush.new.media) tt c.in-Ok.ensures.comes c.flush.result Flushes m has (c.flush.ensures.costs [])

pub returns-in-Err-clause-disk : goal.returns-in-Err-clause-disk
returns-in-Err-clause-disk g c = λ owed none. (owed, none, done_refused ImageIs Loads Flushes (state_of c.args.self.now) (state_of c.bring_up.new.self) owed owed (g.R.Media.state c.args.rig.now) (g.R.Media.state c.bring_up.new.media) c.in-Err.error c.in-Err.ensures.comes)

pub returns-in-Ok-clause-asks : goal.returns-in-Ok-clause-asks
returns-in-Ok-clause-asks g c = λ m has. asks_through ImageIs Loads (state_of c.args.self.now) (state_of c.bring_up.new.self) (state_in [] c.flush.new.self) (g.R.Media.state c.args.rig.now)
    (g.R.Media.state c.bring_up.new.media) (g.R.Media.state c.flush.new.media) tt c.in-Ok.ensures.comes c.flush.result (Flushes) m has (c.flush.ensures.asks [])

pub returns-in-Err-clause-asks : goal.returns-in-Err-clause-asks
returns-in-Err-clause-asks g c = λ m has. asks_refused ImageIs Loads (Flushes) (state_of c.args.self.now) (state_of c.bring_up.new.self) (opened_of (state_of c.args.self.now) m) (g.R.Media.state c.args.rig.now) (g.R.Media.state c.bring_up.new.media)
    c.in-Err.error c.in-Err.ensures.comes

pub returns-in-Err-clause-costs : goal.returns-in-Err-clause-costs
returns-in-Err-clause-costs g c = λ m has. costs_unopened ImageIs Loads (Flushes) (state_of c.args.self.now) (state_of c.bring_up.new.self) (opened_of (state_of c.args.self.now) m) (g.R.Media.state c.args.rig.now) (g.R.Media.state c.bring_up.new.media)
    c.in-Err.error c.in-Err.ensures.comes

pub returns-in-Ok-clause-nothing_buffered : goal.returns-in-Ok-clause-nothing_buffered
returns-in-Ok-clause-nothing_buffered g c = on_ok_weaker c.flush.result (ap length) c.flush.ensures.nothing_waits
