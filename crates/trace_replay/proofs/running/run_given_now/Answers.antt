use Rattle.std.proofs.Common.{List, refl, subst}
use Rattle.trace_model.specs.Run.{disk_after}
use Rattle.trace_model.specs.SoFar.{as_ran}
use Rattle.trace_replay.specs.Events.{Event}
use Rattle.trace_replay.proofs.ExitLemmas.{at_exit}
use Rattle.trace_replay.proofs.GivenLemmas.{events_more}
use Rattle.ft_base.specs.PlainDisk.{BlockWrite}
use Rattle.trace_replay.proofs.OwingLemmas.{now_at}
use Rattle.trace_replay.proofs.RanLemmas.{accepts, clear_now, disk_now, reads_counted, so_far_now, writes_counted}
use Rattle.trace_replay.proofs.TheoremLemmas.{ends_uncounted, ends_within}
use Rattle.trace_replay.proofs.running.run_given_now.Goals as goal

pub count-requires-clause-writes : goal.count-requires-clause-writes
count-requires-clause-writes g c = writes_counted _ _ _ _ _ _ _ c.requires.may.so_far.2

pub count-requires-clause-reads : goal.count-requires-clause-reads
count-requires-clause-reads g c = reads_counted _ _ _ _ _ _ _ c.requires.may.so_far.2

pub returns-in_default-clause-ends : goal.returns-in_default-clause-ends
returns-in_default-clause-ends g c = λ first run so_far s b come.
    ends_uncounted _ _ _ _ _ _ run so_far g.P.Script.state g.P.Script.came g.P.Script.broke g.P.Script.knows s b _ c.args.script.now c.args.line.now come (g.met.P.Script.known c.args.script.now s b _ come) (λ lines all whole known. known) come

pub returns-in_err-_became-clause-ends : goal.returns-in_err-_became-clause-ends
returns-in_err-_became-clause-ends g c = at_exit c.from_residual.result _ _ c.from_residual.ensures.1 (λ first run so_far s b come.
    let l = c.args.line.now in
    let goes = c.run_line.ensures.goes in
    ends_within _ _ _ _ _ _ run so_far g.P.Script.state g.P.Script.came g.P.Script.broke g.P.Script.knows s b c.args.script.now c.run_line.new.script l come (g.met.P.Script.known c.args.script.now s b _ come) (goes.knew s)
    (g.V.Volume.stands (g.V.Volume.state c.run_line.new.volume).told) (g.R.Media.state c.run_line.new.rig)
    c.in_err-_became.field-0.0 (accepts _ _ _ _ _ _ run so_far l c.requires.may.may_run.stops) goes.on goes.shape goes.counts c.in_err-_became.ensures.spends.ended
    (c.in_err-_became.ensures.ends (disk_after run) (disk_now _ _ _ _ _ _ run so_far c.requires.ack)) (c.run_line.ensures.images (disk_after run) (disk_now _ _ _ _ _ _ run so_far c.requires.ack)))

pub returns-in_err-_became-clause-causes : goal.returns-in_err-_became-clause-causes
returns-in_err-_became-clause-causes g c = at_exit c.from_residual.result _ _ c.from_residual.ensures.1
    (let so_far = c.requires.may.so_far.2 in
    let blamed = (c.in_err-_became.ensures.ends (disk_after c.requires.may.so_far.1) (disk_now _ _ _ _ _ _ c.requires.may.so_far.1 so_far c.requires.ack)).blamed in
    record { not_source = blamed.not_source; sink = blamed.sink; flash = blamed.flash; disk = blamed.disk })

pub returns-clause-ran : goal.returns-clause-ran
returns-clause-ran g c = λ first run so_far.
    let l = c.args.line.now in
    let became = c.in_ok-_became._became in
    let one = as_ran l became.cuts became.kept 0 in
    let goes = c.run_line.ensures.goes in
    let stood = disk_now _ _ _ _ _ _ run so_far c.requires.ack in
    let owns = c.run_line.ensures.owner.0 in
    let some = g.met.V.Volume.owes_some c.run_line.new.volume _ owns in
    let none = g.met.V.Volume.write_owes_nothing c.run_line.new.volume _ some.0 owns (now_at c.run_line.ensures.owner.1 c.requires.ack) some.1 in (
      one,
      so_far_now _ _ _ _ _ _ run so_far (g.V.Volume.owes c.run_line.new.volume (g.R.Media.state c.run_line.new.rig).contents) (g.V.Volume.stands (g.V.Volume.state c.run_line.new.volume).told) l became.cuts became.kept (g.R.Media.state c.run_line.new.rig) c.count.new.tally
          (g.V.Volume.state c.run_line.new.volume) c.requires.ack
          (accepts _ _ _ _ _ _ run so_far l c.requires.may.may_run.stops)
          c.in-Ok.ensures.counted
          goes.on goes.shape c.in_ok-_became.ensures.spends.done
          c.in_ok-_became.ensures.runs
          (c.in_ok-_became.ensures.fits (disk_after run) stood)
          (subst (λ (ws : List BlockWrite). g.V.Volume.owes c.run_line.new.volume (g.R.Media.state c.run_line.new.rig).contents ws) none some.1)
          (c.in_ok-_became.ensures.disk (disk_after run) stood),
      λ s b come. subst (λ (e : List Event). g.P.Script.came s b e c.run_line.new.script) (events_more run one refl) (c.in_ok-_became.ensures.said (disk_after run) stood s b _ come),
    )

pub run_line-requires-clause-clear : goal.run_line-requires-clause-clear
run_line-requires-clause-clear g c = clear_now _ _ _ _ _ _ c.requires.may.so_far.1 c.requires.may.so_far.2 c.requires.ack
