use Rattle.trace_model.specs.Run.{disk_after}
use Rattle.trace_replay.proofs.ExitLemmas.{at_exit}
use Rattle.trace_replay.proofs.FromLemmas.{ends_exit}
use Rattle.trace_replay.proofs.RanLemmas.{clear_now, disk_now}
use Rattle.trace_replay.proofs.TheoremLemmas.{ends_end, ends_whole, run_part}
use Rattle.trace_replay.proofs.running.run_end_now.Goals as goal

pub say_end-requires-clause-may : goal.say_end-requires-clause-may
say_end-requires-clause-may g c = record {
  can = c.requires.may.can;
  clear = clear_now _ _ _ _ _ _ c.requires.may.so_far.1 c.requires.may.so_far.2 c.requires.ack;
}

pub returns-in_err-_cuts-clause-ends : goal.returns-in_err-_cuts-clause-ends
returns-in_err-_cuts-clause-ends g c = λ first run so_far s b come known.
    let goes = c.say_end.ensures.goes in
    let stood = disk_now _ _ _ _ _ _ run so_far c.requires.ack in
    let ends = c.in_err-_cuts.ensures.ends (disk_after run) stood in
    ends_exit _ _ _ _ _ _ _ c.from_residual.result _ c.from_residual.ensures.1
    (run_part _ _ _ _ _ _ _ c.in_err-_cuts.field-0.0 ends.blamed.not_trace ends.blamed.not_source
    (ends_end _ _ _ _ _ _ run so_far g.P.Script.state g.P.Script.came g.P.Script.broke g.P.Script.knows s b c.args.script.now c.say_end.new.script come known (goes.knew s)
    (g.V.Volume.stands (g.V.Volume.state c.say_end.new.volume).told) (g.R.Media.state c.say_end.new.rig) goes.on goes.shape goes.counts
    c.in_err-_cuts.field-0.0 (c.say_end.ensures.leaves.kept (disk_after run) stood) c.in_err-_cuts.ensures.spends.ended ends))

pub returns-in_err-_cuts-clause-causes : goal.returns-in_err-_cuts-clause-causes
returns-in_err-_cuts-clause-causes g c = at_exit c.from_residual.result _ _ c.from_residual.ensures.1
    (let blamed = (c.in_err-_cuts.ensures.ends (disk_after c.requires.may.so_far.1) (disk_now _ _ _ _ _ _ c.requires.may.so_far.1 c.requires.may.so_far.2 c.requires.ack)).blamed in
    record { not_source = blamed.not_source; sink = blamed.sink; flash = blamed.flash; disk = blamed.disk })

pub returns-clause-ends : goal.returns-clause-ends
returns-clause-ends g c = λ first run so_far s b come known.
    let goes = c.say_end.ensures.goes in
    let stood = disk_now _ _ _ _ _ _ run so_far c.requires.ack in
    ends_whole _ _ _ _ _ _ run so_far g.P.Script.state g.P.Script.came g.P.Script.broke g.P.Script.knows s b c.args.script.now c.say_end.new.script come known (goes.knew s)
    (g.V.Volume.stands (g.V.Volume.state c.say_end.new.volume).told) (g.R.Media.state c.say_end.new.rig) goes.on goes.shape goes.counts
    (g.V.Volume.state c.say_end.new.volume) c.in_ok-_cuts._cuts (c.say_end.ensures.leaves.kept (disk_after run) stood) c.in_ok-_cuts.ensures.spends.done c.in_ok-_cuts.ensures.cuts (c.in_ok-_cuts.ensures.said (disk_after run) stood)
