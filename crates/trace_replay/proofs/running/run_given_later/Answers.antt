use Rattle.std.proofs.Common.{List, subst, arith}
use Rattle.trace_model.specs.SoFar.{as_ran}
use Rattle.trace_replay.specs.Events.{Event}
use Rattle.trace_replay.proofs.ExitLemmas.{at_exit}
use Rattle.trace_replay.proofs.GivenLemmas.{events_after}
use Rattle.trace_replay.proofs.RanLemmas.{accepts, can_next_owing, reads_counted, so_far_more, writes_counted}
use Rattle.trace_replay.proofs.TheoremLemmas.{ends_owing, ends_uncounted}
use Rattle.trace_replay.proofs.running.run_given_later.Goals as goal

pub count-requires-clause-writes : goal.count-requires-clause-writes
count-requires-clause-writes g c = writes_counted _ _ _ _ _ _ _ c.requires.may.so_far.2

pub count-requires-clause-reads : goal.count-requires-clause-reads
count-requires-clause-reads g c = reads_counted _ _ _ _ _ _ _ c.requires.may.so_far.2

pub run_line_later-requires-clause-may : goal.run_line_later-requires-clause-may
run_line_later-requires-clause-may g c = record {
  owns = c.requires.may.owns;
  owing = (_, _, c.requires.may.so_far.2.owed.owing);
  recent = c.requires.may.recent;
}

pub returns-in_default-clause-ends : goal.returns-in_default-clause-ends
returns-in_default-clause-ends g c = λ first run so_far s b come.
    ends_uncounted _ _ _ _ _ _ run so_far g.P.Script.state g.P.Script.came g.P.Script.broke g.P.Script.knows s b _ c.args.script.now c.args.line.now come (g.met.P.Script.known c.args.script.now s b _ come) (λ lines all whole known. known) come

pub returns-in_err-_settled-clause-ends : goal.returns-in_err-_settled-clause-ends
returns-in_err-_settled-clause-ends g c = at_exit c.from_residual.result _ _ c.from_residual.ensures.1 (λ first run so_far s b come.
    let l = c.args.line.now in
    let goes = c.run_line_later.ensures.goes in
    ends_owing _ _ _ _ _ _ run so_far g.P.Script.state g.P.Script.came g.P.Script.broke g.P.Script.knows s b c.args.script.now c.run_line_later.new.script l come (g.met.P.Script.known c.args.script.now s b _ come) (goes.knew s)
    (g.V.Volume.stands (g.V.Volume.state c.run_line_later.new.volume).told) (g.R.Media.state c.run_line_later.new.rig)
    c.in_err-_settled.field-0.0 c.requires.ack (accepts _ _ _ _ _ _ run so_far l c.requires.may.may_run.stops) goes.on goes.shape goes.counts c.run_line_later.ensures.spends.most
    (c.in_err-_settled.ensures.ends run so_far.owed so_far.stops) (c.run_line_later.ensures.leaves.images run so_far.owed))

pub returns-in_err-_settled-clause-causes : goal.returns-in_err-_settled-clause-causes
returns-in_err-_settled-clause-causes g c = at_exit c.from_residual.result _ _ c.from_residual.ensures.1
    (let so_far = c.requires.may.so_far.2 in
    let blamed = (c.in_err-_settled.ensures.ends c.requires.may.so_far.1 so_far.owed so_far.stops).blamed in
    record { not_source = blamed.not_source; sink = blamed.sink; flash = blamed.flash; disk = blamed.disk })

pub returns-clause-ran : goal.returns-clause-ran
returns-clause-ran g c = λ first run so_far.
    let l = c.args.line.now in
    let s = c.in_ok-_settled._settled in
    let one = as_ran l s.cuts s.kept s.lost in
    let goes = c.run_line_later.ensures.goes in
    let runs = c.in_ok-_settled.ensures.runs in
    let became = c.in_ok-_settled.ensures.leaves.became run so_far.owed so_far.stops in (
      one,
      so_far_more _ _ _ _ _ _ run so_far (g.V.Volume.owes c.run_line_later.new.volume (g.R.Media.state c.run_line_later.new.rig).contents) (g.V.Volume.stands (g.V.Volume.state c.run_line_later.new.volume).told) l s.cuts s.kept s.lost (g.R.Media.state c.run_line_later.new.rig)
          c.count.new.tally _ (g.V.Volume.state c.run_line_later.new.volume) (λ at_write. absurd (let later = c.requires.ack in cc))
          (accepts _ _ _ _ _ _ run so_far l c.requires.may.may_run.stops)
          c.in-Ok.ensures.counted
          goes.on goes.shape c.in_ok-_settled.ensures.spends.done
          runs
          (can_next_owing _ _ _ _ _ _ run so_far l s.cuts s.kept s.lost c.requires.ack (record { few = runs.few; spends = λ none some. (let rest = runs.rest none some in omega arith); fits = became.fits; cut = became.cut; losses = became.losses }))
          became.owed,
      λ src b come. subst (λ (e : List Event). g.P.Script.came src b e c.run_line_later.new.script) (events_after run one) (c.in_ok-_settled.ensures.said run so_far.owed so_far.stops src b _ come),
    )
