use Rattle.std.proofs.Common.{refl}
use Rattle.sha2.specs.Sha256.{sha256}
use Rattle.trace_model.specs.declared.answer.Answer.TheVariants as answer
use Rattle.trace_replay.specs.Events.{told_bytes}
use Rattle.many_disks.proofs.ScriptLemmas.{ends_broke, ends_took}
use Rattle.many_disks.proofs.script.ManyScriptScript.end.Goals as goal

pub returns-clause-taken : goal.returns-clause-taken
returns-clause-taken g c =
    let self = c.args.self.now in
    ends_took self.share self.disks self.reader self.chosen self.tallies.each (g.I.Source.state self.source.now) (g.O.Sink.state self.sink.now) (g.O.Sink.state c.say_ends.new.sink)
    (λ e. answer.End c.args._writes c.args._reads c.args._touched (sha256 (told_bytes e))) (λ e. refl) c.say_ends.result (c.say_ends.ensures.said self.share)

pub returns-clause-sink : goal.returns-clause-sink
returns-clause-sink g c = λ is.
    let self = c.args.self.now in (
      c.say_ends.ensures.rose is,
      ends_broke self.share self.disks self.reader self.chosen self.tallies.each (g.I.Source.state self.source.now) (g.O.Sink.state self.sink.now) (g.O.Sink.state c.say_ends.new.sink)
          (λ e. answer.End c.args._writes c.args._reads c.args._touched (sha256 (told_bytes e))) (λ e. refl) c.say_ends.result (c.say_ends.ensures.said self.share) is,
    )
