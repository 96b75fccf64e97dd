use Rattle.std.proofs.Common.{refl}
use Rattle.std.proofs.lemmas.Result.{IfErr-weaker, on_ok_weaker}
use Rattle.trace_replay.specs.Events.{BreaksBy, CameBy, events_of}
use Rattle.trace_replay.proofs.AskedLemmas.{ends_lines}
use Rattle.trace_replay.proofs.TheoremLemmas.{ends_all, ends_begun}
use Rattle.trace_replay.proofs.running.run_script.Goals as goal

pub returns-in_default-clause-ends : goal.returns-in_default-clause-ends
returns-in_default-clause-ends g c = λ s b come.
    ends_begun (g.V.Volume.state c.args.volume.now).told (g.V.Volume.owes c.args.volume.now (g.R.Media.state c.args.rig.now).contents) g.V.Volume.stands (g.R.Media.state c.args.rig.now) c.new-tally.result (g.V.Volume.state c.args.volume.now) refl c.requires.fresh c.new-tally.ensures
    g.P.Script.state g.P.Script.came g.P.Script.broke g.P.Script.knows s b c.args.script.now come (g.met.P.Script.known c.args.script.now s b _ come)

pub returns-clause-ends : goal.returns-clause-ends
returns-clause-ends g c = λ s b come.
    let y = c.run_lines.new.script in
    ends_lines (g.V.Volume.state c.args.volume.now).told (g.P.Script.knows s y) (CameBy g.P.Script.came s b y) (BreaksBy g.P.Script.broke s b y) (g.V.Volume.stands (g.V.Volume.state c.run_lines.new.volume).told)
    (g.R.Media.state c.args.rig.now) (g.R.Media.state c.run_lines.new.rig) (λ run. g.P.Script.came s b (events_of run) y) c.run_lines.result
    (on_ok_weaker c.run_lines.result (λ ran. (let here = ran.2 s b come in ends_all _ _ _ _ _ _ ran.0 ran.1 g.P.Script.state g.P.Script.came g.P.Script.broke g.P.Script.knows s b y y here.1 here.0)) c.run_lines.ensures.whole)
    (IfErr-weaker c.run_lines.result _ _ (λ e ends. ends s b come) c.run_lines.ensures.ends)
