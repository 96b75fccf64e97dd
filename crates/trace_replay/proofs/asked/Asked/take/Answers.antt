use Rattle.std.proofs.Common.{◌+◌, refl, subst}
use Rattle.trace_replay.specs.Asked.{IsTotal}
use Rattle.trace_replay.proofs.AskedLemmas.{asked_took}
use Rattle.trace_replay.proofs.asked.Asked.take.Goals as goal

pub returns : goal.returns
returns c = λ e is. asked_took e c.args.answer.now c.args.self.now _ refl refl
    (λ n counted. subst (λ k. IsTotal (n + k) c.more-self.result) c.cuts_by.ensures (c.more-self.ensures n counted))
    is
