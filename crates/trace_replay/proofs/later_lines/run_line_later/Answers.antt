use Rattle.std.proofs.Common.{◌++◌}
use Rattle.trace_model.specs.Run.{disk_without, lost_told, own_answers, stopped}
use Rattle.trace_replay.proofs.EventsLemmas.{says_then}
use Rattle.trace_replay.proofs.ExitLemmas.{at_exit}
use Rattle.trace_replay.proofs.LeavesLemmas.{owing_exit}
use Rattle.trace_replay.proofs.OwingEndLemmas.{owing_said}
use Rattle.trace_replay.proofs.WithinLemmas.{goes_script}
use Rattle.trace_replay.proofs.later_lines.run_line_later.Goals as goal

pub returns-in_err-settled-clause-ends : goal.returns-in_err-settled-clause-ends
returns-in_err-settled-clause-ends g c = at_exit c.from_residual.result _ _ c.from_residual.ensures.1 (λ run o stops. c.in_err-settled.ensures.ends run)

pub returns-in_err-say_line-clause-ends : goal.returns-in_err-say_line-clause-ends
returns-in_err-say_line-clause-ends g c = at_exit c.from_residual-in_err-say_line.result _ _ c.from_residual-in_err-say_line.ensures.1 (λ run o stops.
    let s = c.in_ok-settled.settled in
    let became = c.in_ok-settled.ensures.leaves.became run o stops in
    owing_said g.P.Script.state g.P.Script.came g.P.Script.broke g.P.Script.knows c.in_err-say_line.field-0.0 c.args.script.now c.call_line.new.script c.say_line.new.script (g.R.Media.state c.args.rig.now) (g.R.Media.state c.call_line.new.rig) c.args.line.now s.cuts s.kept s.lost run
    c.in_ok-settled.ensures.runs became.fits became.cut became.losses c.call_line.ensures.goes c.in_ok-settled.ensures.said
    (c.in_err-say_line.ensures.said (disk_without s.lost run) (c.in_ok-settled.ensures.gathered run o stops)).ended)

pub returns-in_err-say_line-clause-goes : goal.returns-in_err-say_line-clause-goes
returns-in_err-say_line-clause-goes g c = goes_script g.P.Script.state g.P.Script.came g.P.Script.broke g.P.Script.knows _ _ _ _ _ c.call_line.ensures.goes c.say_line.ensures.goes

pub returns-clause-said : goal.returns-clause-said
returns-clause-said g c = λ run o stops.
    let s = c.in_ok-settled.settled in
    says_then g.P.Script.came _ c.call_line.new.script _ (stopped s.cuts) (lost_told s.lost ++ own_answers c.args.line.now s.cuts s.kept (disk_without s.lost run)) c.in_ok-settled.ensures.said
    (c.in_ok-say_line.ensures.said (disk_without s.lost run) (c.in_ok-settled.ensures.gathered run o stops)).done

pub returns-clause-goes : goal.returns-clause-goes
returns-clause-goes g c = goes_script g.P.Script.state g.P.Script.came g.P.Script.broke g.P.Script.knows _ _ _ _ _ c.call_line.ensures.goes c.say_line.ensures.goes

pub returns-in_err-settled-clause-leaves : goal.returns-in_err-settled-clause-leaves
returns-in_err-settled-clause-leaves g c = owing_exit _ _ _ _ _ _ _ _ _ _ _ c.from_residual.result _ c.from_residual.ensures.1 c.call_line.ensures.leaves.owner c.call_line.ensures.leaves.images

pub returns-in_err-say_line-clause-leaves : goal.returns-in_err-say_line-clause-leaves
returns-in_err-say_line-clause-leaves g c = owing_exit _ _ _ _ _ _ _ _ _ _ _ c.from_residual-in_err-say_line.result _ c.from_residual-in_err-say_line.ensures.1 c.call_line.ensures.leaves.owner c.call_line.ensures.leaves.images

pub returns-clause-leaves : goal.returns-clause-leaves
returns-clause-leaves g c = c.in_ok-settled.ensures.leaves
