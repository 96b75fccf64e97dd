use Rattle.write_back.proofs.VolumeLemmas.{always_ok, back_done}
use Rattle.cached_disk.proofs.CallLemmas.{if_ok_also}
use Rattle.std.proofs.Common.{refl, ◌∙◌}
use Rattle.ft_volume.specs.Opening.{ImageIs}
use Rattle.ft_volume.specs.Volume.{Idles, opened_of}
use Rattle.ft_volume.proofs.UpLemmas.{asks_refused, asks_through, costs_through, costs_unopened, done_refused, goes_through}
use Rattle.cached_disk.specs.Kept.{Loads}
use Rattle.write_back.specs.Left.{state_of}
use Rattle.write_back.proofs.volume.WriteBackVolume.idle.Goals as goal

pub returns-in-Ok-clause-disk : goal.returns-in-Ok-clause-disk
returns-in-Ok-clause-disk g c = back_done Idles c.args.self.now c.bring_up.new.self c.idle_up.new.self (g.R.Media.state c.args.rig.now) (g.R.Media.state c.bring_up.new.media) (g.R.Media.state c.idle_up.new.media) c.idle_up.result
    c.in-Ok.ensures.comes c.bring_up.ensures.owes c.in-Ok.ensures.up refl c.idle_up.ensures.keeps (always_ok c.idle_up.result (λ owed owes base stand. tt)) c.idle_up.ensures.steps.goes

pub returns-in-Ok-clause-goes : goal.returns-in-Ok-clause-goes
returns-in-Ok-clause-goes g c = goes_through ImageIs Loads (state_of c.args.self.now) (state_of c.bring_up.new.self) (state_of c.idle_up.new.self) (g.R.Media.state c.args.rig.now)
    (g.R.Media.state c.bring_up.new.media) (g.R.Media.state c.idle_up.new.media) tt c.in-Ok.ensures.comes c.idle_up.result c.idle_up.ensures.steps.goes

pub returns-in-Err-clause-disk : goal.returns-in-Err-clause-disk
returns-in-Err-clause-disk g c = λ owed owes. (owed, c.bring_up.ensures.owes owed owes, done_refused ImageIs Loads Idles (state_of c.args.self.now) (state_of c.bring_up.new.self) owed owed (g.R.Media.state c.args.rig.now) (g.R.Media.state c.bring_up.new.media) c.in-Err.error c.in-Err.ensures.comes)

pub returns-in-Ok-clause-asks : goal.returns-in-Ok-clause-asks
returns-in-Ok-clause-asks g c = λ m has. asks_through ImageIs Loads (state_of c.args.self.now) (state_of c.bring_up.new.self) (state_of c.idle_up.new.self) (g.R.Media.state c.args.rig.now)
    (g.R.Media.state c.bring_up.new.media) (g.R.Media.state c.idle_up.new.media) tt c.in-Ok.ensures.comes c.idle_up.result (Idles) m has c.idle_up.ensures.asks

pub returns-in-Err-clause-asks : goal.returns-in-Err-clause-asks
returns-in-Err-clause-asks g c = λ m has. asks_refused ImageIs Loads (Idles) (state_of c.args.self.now) (state_of c.bring_up.new.self) (opened_of (state_of c.args.self.now) m) (g.R.Media.state c.args.rig.now) (g.R.Media.state c.bring_up.new.media)
    c.in-Err.error c.in-Err.ensures.comes

pub returns-in-Err-clause-costs : goal.returns-in-Err-clause-costs
returns-in-Err-clause-costs g c = λ m has. costs_unopened ImageIs Loads (Idles) (state_of c.args.self.now) (state_of c.bring_up.new.self) (opened_of (state_of c.args.self.now) m) (g.R.Media.state c.args.rig.now) (g.R.Media.state c.bring_up.new.media)
    c.in-Err.error c.in-Err.ensures.comes

pub returns-in-Ok-clause-costs : goal.returns-in-Ok-clause-costs
returns-in-Ok-clause-costs g c = λ m has. costs_through ImageIs Loads (state_of c.args.self.now) (state_of c.bring_up.new.self) (state_of c.idle_up.new.self) (g.R.Media.state c.args.rig.now)
    (g.R.Media.state c.bring_up.new.media) (g.R.Media.state c.idle_up.new.media) tt c.in-Ok.ensures.comes c.idle_up.result (Idles) m has c.idle_up.ensures.costs

pub returns-in-Ok-clause-checkpoint : goal.returns-in-Ok-clause-checkpoint
returns-in-Ok-clause-checkpoint g c = c.idle_up.ensures.checkpoint

pub returns-in-Ok-clause-nothing : goal.returns-in-Ok-clause-nothing
returns-in-Ok-clause-nothing g c = if_ok_also c.idle_up.result (λ idled nothing is up. let first = c.bring_up.ensures.same up in let then = nothing is in (then.0 ∙ first.0, then.1 ∙ first.1)) c.idle_up.ensures.nothing
