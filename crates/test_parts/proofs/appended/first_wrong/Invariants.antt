use Rattle.std.proofs.Common.{◌≡◌}
use Rattle.test_parts.proofs.appended.first_wrong.Given as goal

abbrev pub invariant-loop-i : goal.invariant-loop-i
invariant-loop-i l = l.logs.geometry ≡ l.geometry
