use Rattle.std.proofs.Common.{◌+◌, refl, subst}
use Rattle.trace_replay.specs.Asked.{IsTotal}
use Rattle.trace_replay.proofs.AskedLemmas.{asked_gave}
use Rattle.trace_replay.proofs.asked.Asked.give.Goals as goal

pub returns : goal.returns
returns c = λ e is. asked_gave e c.args.line.now c.args.self.now _
    (λ n counted. subst (λ k. IsTotal (n + k) c.more-self.result) c.written_by.ensures (c.more-self.ensures n counted))
    (λ n counted. subst (λ k. IsTotal (n + k) c.more-self-2.result) c.read_by.ensures (c.more-self-2.ensures n counted))
    refl is
