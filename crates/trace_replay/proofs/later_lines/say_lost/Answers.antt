use Rattle.std.proofs.Common.{List, [], ◌++◌, refl, sym, ap}
use Rattle.std.proofs.lemmas.List.{append-nil}
use Rattle.trace_model.specs.declared.answer.Answer.{Answer}
use Rattle.trace_model.specs.Run.{lost_told}
use Rattle.trace_replay.proofs.EventsLemmas.{says_none, says_then}
use Rattle.trace_replay.proofs.LaterLemmas.{same_script}
use Rattle.trace_replay.proofs.SayingLemmas.{ends_within, says_ends, script_then}
use Rattle.trace_replay.proofs.later_lines.say_lost.Goals as goal

pub returns-in_err-say_losses : goal.returns-in_err-say_losses
returns-in_err-say_losses g c =
    says_ends g.P.Script.state g.P.Script.came g.P.Script.broke g.P.Script.knows _ _ _ c.from_residual.result _ c.from_residual.ensures.1 c.say_losses.ensures.goes
    (ends_within g.P.Script.state g.P.Script.came g.P.Script.broke g.P.Script.knows _ _ c.args.script.now c.say_losses.new.script [] (lost_told c.args.lost) c.args.answers.now _ refl (same_script g.P.Script.state g.P.Script.came g.P.Script.broke g.P.Script.knows c.args.script.now)
    (says_none g.P.Script.came c.args.script.now) c.in_err-say_losses.ensures.ended)

pub returns-in_err-say_all : goal.returns-in_err-say_all
returns-in_err-say_all g c =
    says_ends g.P.Script.state g.P.Script.came g.P.Script.broke g.P.Script.knows _ _ _ c.from_residual-in_err-say_all.result _ c.from_residual-in_err-say_all.ensures.1
    (script_then g.P.Script.state g.P.Script.came g.P.Script.broke g.P.Script.knows _ _ _ c.say_losses.ensures.goes c.say_all.ensures.goes)
    (ends_within g.P.Script.state g.P.Script.came g.P.Script.broke g.P.Script.knows _ _ c.say_losses.new.script c.say_all.new.script (lost_told c.args.lost) c.args.answers.now [] _
    (ap (λ (l : List Answer). lost_told c.args.lost ++ l) (sym (append-nil c.args.answers.now))) c.say_losses.ensures.goes c.in_ok-say_losses.ensures.done c.in_err-say_all.ensures.ended)

pub returns : goal.returns
returns g c = record {
  goes = script_then g.P.Script.state g.P.Script.came g.P.Script.broke g.P.Script.knows _ _ _ c.say_losses.ensures.goes c.say_all.ensures.goes;
  done = says_then g.P.Script.came _ c.say_losses.new.script _ (lost_told c.args.lost) c.args.answers.now c.in_ok-say_losses.ensures.done c.in_ok-say_all.ensures.done;
  ended = tt;
}
