use Rattle.std.proofs.Common.{◌≡◌}
use Rattle.mem_rig.specs.Rig.{state_of}
use Rattle.test_cache.proofs.parts.is_first_group_in.Given as goal

abbrev pub invariant-loop-page : goal.invariant-loop-page
invariant-loop-page l = (state_of l.rig).contents ≡ (state_of l.fn.rig).contents
