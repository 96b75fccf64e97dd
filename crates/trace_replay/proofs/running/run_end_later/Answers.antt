use Rattle.trace_replay.proofs.ExitLemmas.{at_exit}
use Rattle.trace_replay.proofs.FromLemmas.{ends_exit}
use Rattle.trace_replay.proofs.TheoremLemmas.{ends_flushed, ends_unflushed, run_part}
use Rattle.trace_replay.proofs.running.run_end_later.Goals as goal

pub say_end_later-requires-clause-may : goal.say_end_later-requires-clause-may
say_end_later-requires-clause-may g c = record {
  can = c.requires.may.can;
  owing = (_, _, c.requires.may.so_far.2.owed.owing);
  recent = c.requires.may.recent;
}

pub returns-in_err-_settled-clause-ends : goal.returns-in_err-_settled-clause-ends
returns-in_err-_settled-clause-ends g c = λ first run so_far s b come known.
    let goes = c.say_end_later.ensures.goes in
    let ends = c.in_err-_settled.ensures.ends run so_far.owed so_far.stops so_far.tally in
    ends_exit _ _ _ _ _ _ _ c.from_residual.result _ c.from_residual.ensures.1
    (run_part _ _ _ _ _ _ _ c.in_err-_settled.field-0.0 ends.blamed.not_trace ends.blamed.not_source
    (ends_unflushed _ _ _ _ _ _ run so_far g.P.Script.state g.P.Script.came g.P.Script.broke g.P.Script.knows s b c.args.script.now c.say_end_later.new.script come known (goes.knew s)
    (g.V.Volume.stands (g.V.Volume.state c.say_end_later.new.volume).told) (g.R.Media.state c.say_end_later.new.rig) goes.on goes.shape goes.counts
    c.in_err-_settled.field-0.0 c.requires.ack (c.say_end_later.ensures.images run so_far.owed so_far.stops) c.in_err-_settled.ensures.spends.ended ends))

pub returns-in_err-_settled-clause-causes : goal.returns-in_err-_settled-clause-causes
returns-in_err-_settled-clause-causes g c = at_exit c.from_residual.result _ _ c.from_residual.ensures.1
    (let so_far = c.requires.may.so_far.2 in
    let blamed = (c.in_err-_settled.ensures.ends c.requires.may.so_far.1 so_far.owed so_far.stops so_far.tally).blamed in
    record { not_source = blamed.not_source; sink = blamed.sink; flash = blamed.flash; disk = blamed.disk })

pub returns-clause-ends : goal.returns-clause-ends
returns-clause-ends g c = λ first run so_far s b come known.
    let goes = c.say_end_later.ensures.goes in
    ends_flushed _ _ _ _ _ _ run so_far g.P.Script.state g.P.Script.came g.P.Script.broke g.P.Script.knows s b c.args.script.now c.say_end_later.new.script come known (goes.knew s)
    (g.V.Volume.stands (g.V.Volume.state c.say_end_later.new.volume).told) (g.R.Media.state c.say_end_later.new.rig) goes.on goes.shape goes.counts
    (g.V.Volume.state c.say_end_later.new.volume) c.in_ok-_settled._settled.cuts c.in_ok-_settled._settled.lost c.requires.ack (c.in_ok-_settled.ensures.flushed run so_far.owed so_far.stops so_far.tally) c.in_ok-_settled.ensures.spends.done c.in_ok-_settled.ensures.cuts
