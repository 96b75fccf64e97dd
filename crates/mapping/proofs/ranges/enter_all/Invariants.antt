use Rattle.std.proofs.Common.{◌-◌}
use Rattle.mapping.specs.Index.{IsIndex, without_range}
use Rattle.mapping.specs.Ranges.{start_of}
use Rattle.mapping.proofs.ranges.enter_all.Given as goal

-- the entries so far are added, the last first
abbrev pub invariant-loop-done : goal.invariant-loop-done
invariant-loop-done l = IsIndex l.geometry (without_range l.held.entries (start_of l.geometry l.span) (l.span.count - l.done)) l.index
