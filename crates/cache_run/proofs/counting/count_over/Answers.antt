use Rattle.std.proofs.Common.{◌≡◌, ◌<◌, ◌+◌, sym, ap, ◌∙◌, subst, arith}
use Rattle.ft_base.specs.Count.{last_count}
use Rattle.ft_media.specs.Passes.{device_writes}
use Rattle.ft_media.specs.declared.rig.Counts.{Counts}
use Rattle.trace_replay.specs.Held.{stops_held}
use Rattle.trace_replay.specs.declared.ended.Ended.TheVariants as ended
use Rattle.cache_run.proofs.CostLemmas.{err_as}
use Rattle.cache_run.proofs.CountLemmas.{counts_whole, none_rose, only_rig, unarmed_lines}
use Rattle.cache_run.proofs.counting.count_over.Goals as goal

pub replay_held-requires-clause-stops : goal.replay_held-requires-clause-stops
replay_held-requires-clause-stops g c =
    let none : stops_held c.args.lines.now ≡ 0 = unarmed_lines c.args.lines.now c.requires.uncut in
    omega (arith, none)

pub returns-in-Some-clause-counted : goal.returns-in-Some-clause-counted
returns-in-Some-clause-counted g c =
    counts_whole c.in-Some.count c.requires.uncut c.in-Ok.ensures.ends
    (sym (ap device_writes c.counts.ensures) ∙ c.in-Some.ensures.exact ∙ ap (λ (k : Counts). device_writes k + c.in-Some.count) c.counts-before.ensures)
    (subst (λ (k : Counts). k.programs < last_count) c.counts.ensures c.in-Some.ensures.below)

pub returns-in-Err-clause-only : goal.returns-in-Err-clause-only
returns-in-Err-clause-only g c = only_rig c.in-Err.ended c.in-Err.ensures.causes none_rose

pub returns-in-Some-clause-sound : goal.returns-in-Some-clause-sound
returns-in-Some-clause-sound g c = λ _ _. c.in-Ok.ensures.causes.none_failed (λ is. cc) (λ is. cc)

pub returns-in-None-clause-sound : goal.returns-in-None-clause-sound
returns-in-None-clause-sound g c = λ _ _. c.in-Ok.ensures.causes.none_failed (λ is. cc) (λ is. cc)

pub returns-in-Err-clause-sound : goal.returns-in-Err-clause-sound
returns-in-Err-clause-sound g c = λ flash disk. c.in-Err.ensures.causes.none_failed (λ is. flash (err_as c.in-Err.ended ended.Flash is)) (λ is. disk (err_as c.in-Err.ended ended.Disk is))
