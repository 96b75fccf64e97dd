use Rattle.std.proofs.Common.{[], ◌∷◌, sym, subst}
use Rattle.std.proofs.lemmas.Result.{on_ok_weaker}
use Rattle.sha2.specs.Hashers.{Holds256}
use Rattle.trace_replay.proofs.HeldLemmas.{held_broke, held_takes}
use Rattle.trace_replay.proofs.StreamLemmas.{sink_part, took_bytes}
use Rattle.trace_replay.proofs.held.HeldScriptScript.answer.Goals as goal

pub returns-clause-taken : goal.returns-clause-taken
returns-clause-taken g c = on_ok_weaker c.say.result (λ said s b e came. (
  held_takes _ _ _ _ b e came.0 (g.O.Sink.state c.say.new.sink) (c.args.answer.now ∷ []) said,
  subst (Holds256 c.args.self.now.digest.hasher) (sym (took_bytes e c.args.answer.now)) came.1,
)) c.say.ensures.ok

pub returns-clause-sink : goal.returns-clause-sink
returns-clause-sink g c = λ is. (
  c.say.ensures.rose is,
  λ s b e came. held_broke _ _ _ _ b e came.0 (g.O.Sink.state c.say.new.sink) c.args.answer.now (sink_part c.say.result (g.O.Sink.state c.args.self.now.sink.now) (g.O.Sink.state c.say.new.sink) c.args.answer.now is c.say.ensures.part),
)
