use Rattle.mem_rig.specs.Rig.{state_of}
use Rattle.merge_engine.specs.Agreement.{PartsAgree}
use Rattle.test_cache.proofs.parts.run.Given as goal

abbrev pub invariant-loop-step : goal.invariant-loop-step
invariant-loop-step l = PartsAgree l.parts (state_of l.rig).contents
