use Rattle.std.proofs.Common.{rules, Ok, Err, ap}
use Rattle.ft_volume.specs.Volume.{Idles}
use Rattle.ft_volume.specs.declared.volume.Idled.TheVariants.{Cleaned}
use Rattle.cached_disk.specs.declared.disk.CachedDisk.{CachedDisk}
use Rattle.cached_disk.proofs.CallLemmas.{if_ok_also}
use Rattle.cached_disk.specs.Kept.{told_of}
use Rattle.write_back.specs.Left.{state_of}
use Rattle.write_back.proofs.WriteLemmas.{idle_logs, stays_as}
use Rattle.write_back.proofs.VolumeLemmas.{cleaned_asks, cleaned_costs, cleaned_steps, goes_over, uncleaned_costs, uncleaned_steps}
use Rattle.write_back.proofs.volume.WriteBack.idle_up.Goals as goal

pub returns-then-len-self-clause-keeps : goal.returns-then-len-self-clause-keeps
returns-then-len-self-clause-keeps g c = c.checkpoint_if_due.ensures.serves.keeps

pub returns-then-len-self-clause-steps : goal.returns-then-len-self-clause-steps
returns-then-len-self-clause-steps g c =
    record {
      left = search rules;
      goes = c.checkpoint_if_due.ensures.serves.goes c.args.self.now.dirty.order;
      faulted = search rules;
      within = search rules;
    }

pub returns-then-len-self-clause-asks : goal.returns-then-len-self-clause-asks
returns-then-len-self-clause-asks g c = c.checkpoint_if_due.ensures.asks c.args.self.now.dirty.order

pub returns-then-len-self-clause-checkpoint : goal.returns-then-len-self-clause-checkpoint
returns-then-len-self-clause-checkpoint g c = c.checkpoint_if_due.ensures.checkpoint c.args.self.now.dirty.order

pub returns-then-len-self-clause-nothing : goal.returns-then-len-self-clause-nothing
returns-then-len-self-clause-nothing g c = if_ok_also c.checkpoint_if_due.result (λ idled nothing is. let same = nothing is in (ap (λ (disk : CachedDisk). record c.args.self.now { disk = disk }) same.0, same.1)) c.checkpoint_if_due.ensures.nothing

pub returns-in-Ok-clause-steps : goal.returns-in-Ok-clause-steps
returns-in-Ok-clause-steps g c = cleaned_steps c.args.self.now c.write_oldest_back.new.self (g.M.Media.state c.args.media.now) (g.M.Media.state c.write_oldest_back.new.media) c.in-Ok.ensures.steps

pub returns-in-Err-clause-steps : goal.returns-in-Err-clause-steps
returns-in-Err-clause-steps g c = uncleaned_steps c.args.self.now c.write_oldest_back.new.self (g.M.Media.state c.args.media.now) (g.M.Media.state c.write_oldest_back.new.media) c.in-Err.error c.in-Err.ensures.steps

pub returns-in-Ok-clause-asks : goal.returns-in-Ok-clause-asks
returns-in-Ok-clause-asks g c = cleaned_asks (state_of c.args.self.now) (state_of c.write_oldest_back.new.self) (g.M.Media.state c.args.media.now) (g.M.Media.state c.write_oldest_back.new.media) (Ok Cleaned)
    (goes_over c.args.self.now c.requires.left.mode (search rules)) c.write_oldest_back.ensures.flushes

pub returns-in-Err-clause-costs : goal.returns-in-Err-clause-costs
returns-in-Err-clause-costs g c = uncleaned_costs (state_of c.args.self.now) (state_of c.write_oldest_back.new.self) (g.M.Media.state c.args.media.now) (g.M.Media.state c.write_oldest_back.new.media) c.in-Err.error
    (goes_over c.args.self.now c.requires.left.mode (search rules)) c.in-Err.ensures.writes (λ up. stays_as Idles c.args.self.now c.write_oldest_back.new.self c.in-Err.ensures.steps.goes.told (c.in-Err.ensures.same up) (c.in-Err.ensures.held up) (idle_logs (told_of c.args.self.now.disk).ack))

pub returns-in-Err-clause-asks : goal.returns-in-Err-clause-asks
returns-in-Err-clause-asks g c = cleaned_asks (state_of c.args.self.now) (state_of c.write_oldest_back.new.self) (g.M.Media.state c.args.media.now) (g.M.Media.state c.write_oldest_back.new.media) (Err c.in-Err.error)
    (goes_over c.args.self.now c.requires.left.mode (search rules)) c.write_oldest_back.ensures.flushes

pub returns-in-Ok-clause-keeps : goal.returns-in-Ok-clause-keeps
returns-in-Ok-clause-keeps g c = c.write_oldest_back.ensures.keeps

pub returns-in-Ok-clause-costs : goal.returns-in-Ok-clause-costs
returns-in-Ok-clause-costs g c = cleaned_costs (state_of c.args.self.now) (state_of c.write_oldest_back.new.self) (g.M.Media.state c.args.media.now) (g.M.Media.state c.write_oldest_back.new.media)
    (goes_over c.args.self.now c.requires.left.mode (search rules)) c.in-Ok.ensures.table (c.in-Ok.ensures.held c.in-Ok.ensures.steps.goes.up) c.in-Ok.ensures.writes

pub returns-in-Err-clause-keeps : goal.returns-in-Err-clause-keeps
returns-in-Err-clause-keeps g c = c.write_oldest_back.ensures.keeps
