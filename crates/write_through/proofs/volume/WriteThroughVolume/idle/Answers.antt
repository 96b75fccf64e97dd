use Rattle.write_through.proofs.VolumeLemmas.{through_done}
use Rattle.cached_disk.proofs.CallLemmas.{if_ok_also}
use Rattle.cached_disk.specs.declared.disk.CachedDisk.{CachedDisk}
use Rattle.std.proofs.Common.{refl, [], ap, ◌∙◌}
use Rattle.ft_base.specs.Table.{goes_back}
use Rattle.ft_base.specs.declared.told.Mode.{Mode}
use Rattle.ft_volume.specs.Opening.{ImageIs}
use Rattle.ft_volume.specs.Volume.{Idles, opened_of}
use Rattle.ft_volume.proofs.UpLemmas.{asks_refused, asks_through, costs_through, costs_unopened, done_refused, goes_through}
use Rattle.cached_disk.specs.Kept.{Loads, state_in}
use Rattle.write_through.specs.Left.{state_of}
use Rattle.write_through.proofs.volume.WriteThroughVolume.idle.Goals as goal

pub returns-in-Ok-clause-disk : goal.returns-in-Ok-clause-disk
returns-in-Ok-clause-disk g c = through_done Idles c.args.self.now.disk c.bring_up.new.self.disk c.checkpoint_if_due.new.self (g.R.Media.state c.args.rig.now) (g.R.Media.state c.bring_up.new.media) (g.R.Media.state c.checkpoint_if_due.new.media) c.checkpoint_if_due.result
    c.in-Ok.ensures.comes c.bring_up.ensures.left.mode c.bring_up.ensures.left.disk c.in-Ok.ensures.up refl c.checkpoint_if_due.ensures.serves

pub returns-in-Ok-clause-goes : goal.returns-in-Ok-clause-goes
returns-in-Ok-clause-goes g c = goes_through ImageIs Loads (state_of c.args.self.now) (state_of c.bring_up.new.self) (state_in [] c.checkpoint_if_due.new.self) (g.R.Media.state c.args.rig.now)
    (g.R.Media.state c.bring_up.new.media) (g.R.Media.state c.checkpoint_if_due.new.media) tt c.in-Ok.ensures.comes c.checkpoint_if_due.result (c.checkpoint_if_due.ensures.serves.goes [])

pub returns-in-Ok-clause-costs : goal.returns-in-Ok-clause-costs
returns-in-Ok-clause-costs g c = λ m has. costs_through ImageIs Loads (state_of c.args.self.now) (state_of c.bring_up.new.self) (state_in [] c.checkpoint_if_due.new.self)
    (g.R.Media.state c.args.rig.now) (g.R.Media.state c.bring_up.new.media) (g.R.Media.state c.checkpoint_if_due.new.media) tt c.in-Ok.ensures.comes c.checkpoint_if_due.result Idles m has
    (c.checkpoint_if_due.ensures.costs [] (ap (λ (m : Mode). goes_back m c.bring_up.new.self.disk.options.dirty 0) c.bring_up.ensures.left.mode))

pub returns-in-Err-clause-disk : goal.returns-in-Err-clause-disk
returns-in-Err-clause-disk g c = λ owed none. (owed, none, done_refused ImageIs Loads Idles (state_of c.args.self.now) (state_of c.bring_up.new.self) owed owed (g.R.Media.state c.args.rig.now) (g.R.Media.state c.bring_up.new.media) c.in-Err.error c.in-Err.ensures.comes)

pub returns-in-Ok-clause-asks : goal.returns-in-Ok-clause-asks
returns-in-Ok-clause-asks g c = λ m has. asks_through ImageIs Loads (state_of c.args.self.now) (state_of c.bring_up.new.self) (state_in [] c.checkpoint_if_due.new.self) (g.R.Media.state c.args.rig.now)
    (g.R.Media.state c.bring_up.new.media) (g.R.Media.state c.checkpoint_if_due.new.media) tt c.in-Ok.ensures.comes c.checkpoint_if_due.result (Idles) m has (c.checkpoint_if_due.ensures.asks [])

pub returns-in-Err-clause-asks : goal.returns-in-Err-clause-asks
returns-in-Err-clause-asks g c = λ m has. asks_refused ImageIs Loads (Idles) (state_of c.args.self.now) (state_of c.bring_up.new.self) (opened_of (state_of c.args.self.now) m) (g.R.Media.state c.args.rig.now) (g.R.Media.state c.bring_up.new.media)
    c.in-Err.error c.in-Err.ensures.comes

pub returns-in-Err-clause-costs : goal.returns-in-Err-clause-costs
returns-in-Err-clause-costs g c = λ m has. costs_unopened ImageIs Loads (Idles) (state_of c.args.self.now) (state_of c.bring_up.new.self) (opened_of (state_of c.args.self.now) m) (g.R.Media.state c.args.rig.now) (g.R.Media.state c.bring_up.new.media)
    c.in-Err.error c.in-Err.ensures.comes

pub returns-in-Ok-clause-checkpoint : goal.returns-in-Ok-clause-checkpoint
returns-in-Ok-clause-checkpoint g c = c.checkpoint_if_due.ensures.checkpoint []

pub returns-in-Ok-clause-nothing : goal.returns-in-Ok-clause-nothing
returns-in-Ok-clause-nothing g c = if_ok_also c.checkpoint_if_due.result (λ idled nothing is up.
    let first = c.bring_up.ensures.same up in
    let then = nothing is in
    (ap (λ (disk : CachedDisk). record c.bring_up.new.self { disk = disk }) then.0 ∙ first.0, then.1 ∙ first.1)) c.checkpoint_if_due.ensures.nothing
