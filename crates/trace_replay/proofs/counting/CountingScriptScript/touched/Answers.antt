use Rattle.std.proofs.Common.{[], ◌∷◌, refl}
use Rattle.std.proofs.lemmas.Result.{on_err_weaker, on_ok_weaker}
use Rattle.trace_replay.specs.Events.Event.{Touched}
use Rattle.trace_replay.proofs.AskedLemmas.{asked_still}
use Rattle.trace_replay.proofs.counting.CountingScriptScript.touched.Goals as goal

pub returns-clause-told : goal.returns-clause-told
returns-clause-told g c = on_ok_weaker c.touched.result (λ told s b e came. (told s b e came.0, asked_still e (Touched c.args.lba c.args.block.now ∷ []) c.args.self.now.asked refl refl came.1)) c.touched.ensures.told

pub returns-clause-memory : goal.returns-clause-memory
returns-clause-memory g c = on_err_weaker c.touched.result (λ none. (none.0, λ s b e came. (none.1 s b e came.0, asked_still e [] c.args.self.now.asked refl refl came.1))) c.touched.ensures.memory
