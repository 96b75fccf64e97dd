use Rattle.std.proofs.Common.{◌≡◌, ◌<◌, ◌+◌, ◌*◌, [], ◌∷◌, List, Err, OnOk, IfErr, map, length, take, drop, get_or, refl, sym, ap, ◌∙◌, subst, arith, rules}
use Rattle.std.proofs.Math.Seq.{take-length}
use Rattle.std.proofs.lemmas.List.{take_more}
use Rattle.trace_model.specs.declared.answer.Answer.{Answer}
use Rattle.trace_replay.specs.Events.{Says}
use Rattle.trace_replay.specs.Said.{Said, SaidFront}
use Rattle.many_disks.specs.Told.{own}
use Rattle.trace_replay.proofs.SayingLemmas.{ends_within, says_ends, says_of, script_then, split_at}
use Rattle.many_disks.proofs.PrintedLemmas.{no_end-any}
use Rattle.many_disks.proofs.SayLemmas.{says_none, says_own, says_then}
use Rattle.many_disks.proofs.ScriptLemmas.{answers_broke, answers_took}
use Rattle.many_disks.proofs.script.ManyScriptScript.answers.Goals as goal
use Rattle.many_disks.proofs.script.ManyScriptScript.answers.Invariants.{broke, came, knows, tells}

pub returns-then-not-has_end-clause-said : goal.returns-then-not-has_end-clause-said
returns-then-not-has_end-clause-said g c =
    let self = c.args.self.now in
    let a = g.I.Source.state self.source.now in
    let x = g.O.Sink.state self.sink.now in
    let y = g.O.Sink.state c.say_own.new.sink in
    let r = c.say_own.result in
    let due = c.args.answers.now in
    says_own (tells g) (came g) (broke g) (knows g) self _ x y (self.chosen * self.share)
    (answers_took self.share self.disks self.reader self.chosen self.tallies.each a x y)
    (answers_broke self.share self.disks self.reader self.chosen self.tallies.each a x y)
    due r (no_end-any due (sym c.has_end.ensures ∙ c.if-not-has_end.true))
    (record { source = omega arith; sink = c.say_own.ensures.later; lent = first_of (search rules, cc); size = refl; turns = omega arith; knew = λ s lines all whole known. known })
    (subst (λ k. OnOk r (Said x y (map (own k) due))) c.start-start.ensures c.say_own.ensures.ok)
    (subst (λ k. IfErr r (λ e. SaidFront e x y (map (own k) due))) c.start-start.ensures c.say_own.ensures.part)
    c.say_own.ensures.only c.say_own.ensures.rose

pub loop-answer-init : goal.loop-answer-init
loop-answer-init g c = record {
  goes = record { source = omega arith; sink = omega arith; lent = refl; size = refl; turns = omega arith; knew = λ s lines all whole known. known };
  said = says_none (came g) c.args.self.now;
}

pub returns-in_err-answer-clause-said : goal.returns-in_err-answer-clause-said
returns-in_err-answer-clause-said g c =
    let all = c.args.answers.now in
    let i = c.loop-answer.answer-index in
    let said = c.in_err-answer.ensures in
    let one = says_of (tells g) (came g) (broke g) (knows g) c.loop-answer.self c.answer.new.self (get_or all i _) (Err c.in_err-answer.field-0.0) said.taken said.sink said.memory said.only
    (record { source = said.no_source; sink = said.goes.later; lent = said.goes.lent; size = said.goes.size; turns = said.goes.turns; knew = said.knew }) in
    says_ends (tells g) (came g) (broke g) (knows g) _ _ _ c.from_residual.result _ c.from_residual.ensures.1
    (script_then (tells g) (came g) (broke g) (knows g) _ _ _ c.loop-answer.invariant.goes one.goes)
    (ends_within (tells g) (came g) (broke g) (knows g) _ _ _ _ (take i all) _ (drop (i + 1) all) _ (split_at all i _ (omega arith)) c.loop-answer.invariant.goes c.loop-answer.invariant.said one.ended)

pub loop-answer-preserved : goal.loop-answer-preserved
loop-answer-preserved g c =
    let all = c.args.answers.now in
    let i = c.loop-answer.answer-index in
    let within : i < length all = omega arith in
    let said = c.in_ok-answer.ensures in
    record {
      goes = script_then (tells g) (came g) (broke g) (knows g) c.args.self.now c.loop-answer.self c.answer.new.self c.loop-answer.invariant.goes
          (record { source = said.no_source; sink = said.goes.later; lent = said.goes.lent; size = said.goes.size; turns = said.goes.turns; knew = said.knew });
      said = subst (λ (xs : List Answer). Says (came g) c.args.self.now c.answer.new.self xs) (sym (take_more all i _ within))
          (says_then (came g) c.args.self.now c.loop-answer.self c.answer.new.self (take i all) (get_or all i _ ∷ []) c.loop-answer.invariant.said said.taken);
    }

pub returns-clause-said : goal.returns-clause-said
returns-clause-said g c =
    let all = c.args.answers.now in
    let at_end : c.loop-answer.answer-index ≡ length all = omega arith in
    record {
      goes = c.loop-answer.invariant.goes;
      done = subst (λ (xs : List Answer). Says (came g) c.args.self.now c.loop-answer.self xs) (ap (λ n. take n all) at_end ∙ take-length all) c.loop-answer.invariant.said;
      ended = tt;
    }
