use Rattle.std.proofs.Common.{◌≡◌}
use Rattle.test_journal.proofs.logs.first_wrong_of.Given as goal

abbrev pub invariant-loop-i : goal.invariant-loop-i
invariant-loop-i l = l.log.geometry ≡ l.geometry
