use Rattle.std.proofs.Common.{◌≡◌, List, sym, subst, arith, ℕ}
use Rattle.trace_model.specs.declared.answer.Answer.{Answer}
use Rattle.trace_model.specs.Run.{lost_told}
use Rattle.trace_replay.specs.Saying.{SaysSo}
use Rattle.trace_replay.proofs.LaterLemmas.{lost_said, none_said}
use Rattle.trace_replay.proofs.later_lines.say_losses.Goals as goal

pub say-requires : goal.say-requires
say-requires g c = let some = c.if-lost-eq0.false in omega (arith, some)

pub returns-then-lost-eq0 : goal.returns-then-lost-eq0
returns-then-lost-eq0 g c =
    let none : c.args.lost ≡ 0 = c.if-lost-eq0.true in
    subst (λ (n : ℕ). SaysSo g.P.Script.state g.P.Script.came g.P.Script.broke g.P.Script.knows c.args.script.now c.args.script.now (lost_told n) _) (sym none)
    (none_said g.P.Script.state g.P.Script.came g.P.Script.broke g.P.Script.knows c.args.script.now)

pub returns : goal.returns
returns g c =
    let some = c.if-lost-eq0.false in
    subst (λ (l : List Answer). SaysSo g.P.Script.state g.P.Script.came g.P.Script.broke g.P.Script.knows c.args.script.now c.say.new.script l c.say.result) (sym (lost_said c.args.lost some)) c.say.ensures
