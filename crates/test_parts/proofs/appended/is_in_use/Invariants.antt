use Rattle.std.proofs.Common.{◌≡◌, false, take}
use Rattle.log_blocks.specs.Logs.{is_in}
use Rattle.test_parts.proofs.appended.is_in_use.Given as goal

abbrev pub invariant-loop-i : goal.invariant-loop-i
invariant-loop-i l = is_in l.block (take l.i l.logs.used) ≡ false
