use Rattle.mem_rig.specs.Rig.{state_of}
use Rattle.merge_engine.specs.Agreement.{PartsAgree}
use Rattle.test_cache.proofs.parts.first_wrong_on.Given as goal

abbrev pub invariant-loop-i : goal.invariant-loop-i
invariant-loop-i l = PartsAgree l.parts (state_of l.rig).contents
