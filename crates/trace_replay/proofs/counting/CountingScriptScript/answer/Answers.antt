use Rattle.std.proofs.Common.{[], refl}
use Rattle.trace_replay.proofs.AskedLemmas.{asked_still}
use Rattle.trace_replay.proofs.counting.CountingScriptScript.answer.Goals as goal

pub returns-in-Ok-clause-taken : goal.returns-in-Ok-clause-taken
returns-in-Ok-clause-taken g c = λ s b e came. (c.in-Ok.ensures.taken s b e came.0, c.take.ensures e came.1)

pub returns-in-Err-clause-sink : goal.returns-in-Err-clause-sink
returns-in-Err-clause-sink g c = λ is.
    let failed = c.in-Err.ensures.sink is in
    (failed.0, λ s b e came. failed.1 s b e came.0)

pub returns-in-Err-clause-memory : goal.returns-in-Err-clause-memory
returns-in-Err-clause-memory g c = λ is s b e came. (c.in-Err.ensures.memory is s b e came.0, asked_still e [] c.args.self.now.asked refl refl came.1)
