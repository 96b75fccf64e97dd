use Rattle.mapping.specs.Index.{IsIndex, without_range}
use Rattle.mapping.specs.Ranges.{start_of}
use Rattle.mapping.proofs.ranges.leave_all.Given as goal

-- the entries so far are removed
abbrev pub invariant-loop-done : goal.invariant-loop-done
invariant-loop-done l = IsIndex l.geometry (without_range l.held.entries (start_of l.geometry l.span) l.done) l.index
