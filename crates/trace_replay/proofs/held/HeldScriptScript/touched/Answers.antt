use Rattle.trace_replay.proofs.HeldLemmas.{held_touched}
use Rattle.trace_replay.proofs.held.HeldScriptScript.touched.Goals as goal

pub returns-clause-told : goal.returns-clause-told
returns-clause-told g c = λ s b e came. (held_touched _ _ _ _ b e came.0 c.args.lba c.args.block.now, c.take.ensures e came.1)
