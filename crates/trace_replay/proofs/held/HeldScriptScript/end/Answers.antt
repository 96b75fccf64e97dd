use Rattle.std.proofs.Common.{[], ◌∷◌, sym, subst}
use Rattle.std.proofs.lemmas.Result.{on_ok_weaker}
use Rattle.sha2.specs.Hashers.{Holds256}
use Rattle.sha2.specs.Sha256.{sha256}
use Rattle.trace_model.specs.declared.answer.Answer.{Answer}
use Rattle.trace_model.specs.declared.answer.Answer.TheVariants as answer
use Rattle.trace_replay.specs.Events.{told_bytes}
use Rattle.trace_replay.specs.Events.Event.{Took}
use Rattle.trace_replay.specs.Said.{Said}
use Rattle.trace_replay.specs.Stream.{BrokeStream}
use Rattle.trace_replay.proofs.HeldLemmas.{held_broke, held_takes}
use Rattle.trace_replay.proofs.StreamLemmas.{sink_part, took_bytes}
use Rattle.trace_replay.proofs.held.HeldScriptScript.end.Goals as goal

pub returns-clause-taken : goal.returns-clause-taken
returns-clause-taken g c = on_ok_weaker c.say.result (λ said s b e came.
    let end : Answer = answer.End c.args.writes c.args.reads c.args.touched (sha256 (told_bytes e)) in
    let told : Said (g.O.Sink.state c.args.self.now.sink.now) (g.O.Sink.state c.say.new.sink) (end ∷ []) = subst (λ (a : Answer). Said (g.O.Sink.state c.args.self.now.sink.now) (g.O.Sink.state c.say.new.sink) (a ∷ [])) (c.in-Ok.ensures e came.1) said in
    (held_takes _ _ _ _ b e came.0 (g.O.Sink.state c.say.new.sink) (end ∷ []) told, subst (Holds256 c.args.self.now.digest.hasher) (sym (took_bytes e end)) came.1)) c.say.ensures.ok

pub returns-clause-sink : goal.returns-clause-sink
returns-clause-sink g c = λ is. (
  c.say.ensures.rose is,
  λ s b e came.
      subst (λ (a : Answer). BrokeStream b (g.O.Sink.state c.say.new.sink) e (Took a)) (c.in-Ok.ensures e came.1)
      (held_broke _ _ _ _ b e came.0 (g.O.Sink.state c.say.new.sink) c.in-Ok.end
      (sink_part c.say.result (g.O.Sink.state c.args.self.now.sink.now) (g.O.Sink.state c.say.new.sink) c.in-Ok.end is c.say.ensures.part)),
)
