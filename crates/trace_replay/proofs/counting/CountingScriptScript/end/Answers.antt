use Rattle.std.proofs.Common.{[], refl}
use Rattle.std.proofs.lemmas.Result.{on_ok_weaker}
use Rattle.sha2.specs.Sha256.{sha256}
use Rattle.trace_replay.specs.Events.{told_bytes}
use Rattle.trace_replay.proofs.AskedLemmas.{asked_end, asked_still}
use Rattle.trace_replay.proofs.counting.CountingScriptScript.end.Goals as goal

pub returns-clause-taken : goal.returns-clause-taken
returns-clause-taken g c = on_ok_weaker c.end.result (λ taken s b e came. (taken s b e came.0, asked_end e c.args.writes c.args.reads c.args.touched (sha256 (told_bytes e)) c.args.self.now.asked came.1)) c.end.ensures.taken

pub returns-clause-sink : goal.returns-clause-sink
returns-clause-sink g c = λ is.
    let failed = c.end.ensures.sink is in
    (failed.0, λ s b e came. failed.1 s b e came.0)

pub returns-clause-memory : goal.returns-clause-memory
returns-clause-memory g c = λ is s b e came. (c.end.ensures.memory is s b e came.0, asked_still e [] c.args.self.now.asked refl refl came.1)
