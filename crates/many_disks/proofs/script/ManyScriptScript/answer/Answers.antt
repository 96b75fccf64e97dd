use Rattle.std.proofs.Common.{ap, sym, ◌∙◌}
use Rattle.std.proofs.lemmas.Result.{on_ok_weaker}
use Rattle.trace_replay.proofs.StreamLemmas.{sink_part}
use Rattle.many_disks.specs.Told.{own}
use Rattle.many_disks.proofs.ScriptLemmas.{answer_broke, answer_took, ends_broke, ends_took}
use Rattle.many_disks.proofs.script.ManyScriptScript.answer.Goals as goal

pub returns-then-is_end-clause-taken : goal.returns-then-is_end-clause-taken
returns-then-is_end-clause-taken g c =
    let self = c.args.self.now in
    ends_took self.share self.disks self.reader self.chosen self.tallies.each (g.I.Source.state self.source.now) (g.O.Sink.state self.sink.now) (g.O.Sink.state c.say_ends.new.sink)
    (λ e. c.args.answer.now) (λ e. sym c.is_end.ensures ∙ c.if-is_end.true) c.say_ends.result (c.say_ends.ensures.said self.share)

pub returns-then-is_end-clause-sink : goal.returns-then-is_end-clause-sink
returns-then-is_end-clause-sink g c = λ is.
    let self = c.args.self.now in (
      c.say_ends.ensures.rose is,
      ends_broke self.share self.disks self.reader self.chosen self.tallies.each (g.I.Source.state self.source.now) (g.O.Sink.state self.sink.now) (g.O.Sink.state c.say_ends.new.sink)
          (λ e. c.args.answer.now) (λ e. sym c.is_end.ensures ∙ c.if-is_end.true) c.say_ends.result (c.say_ends.ensures.said self.share) is,
    )

pub returns-clause-taken : goal.returns-clause-taken
returns-clause-taken g c =
    let self = c.args.self.now in
    on_ok_weaker c.say.result (answer_took self.share self.disks self.reader self.chosen self.tallies.each (g.I.Source.state self.source.now) (g.O.Sink.state self.sink.now) (g.O.Sink.state c.say.new.sink)
    c.args.answer.now c.own-own.result (sym c.is_end.ensures ∙ c.if-is_end.false) (c.own-own.ensures ∙ ap (λ start. own start c.args.answer.now) c.start.ensures)) c.say.ensures.ok

pub returns-clause-sink : goal.returns-clause-sink
returns-clause-sink g c = λ is.
    let self = c.args.self.now in (
      c.say.ensures.rose is,
      answer_broke self.share self.disks self.reader self.chosen self.tallies.each (g.I.Source.state self.source.now) (g.O.Sink.state self.sink.now) (g.O.Sink.state c.say.new.sink)
          c.args.answer.now c.own-own.result (sym c.is_end.ensures ∙ c.if-is_end.false) (c.own-own.ensures ∙ ap (λ start. own start c.args.answer.now) c.start.ensures)
          (sink_part c.say.result (g.O.Sink.state self.sink.now) (g.O.Sink.state c.say.new.sink) c.own-own.result is c.say.ensures.part),
    )
