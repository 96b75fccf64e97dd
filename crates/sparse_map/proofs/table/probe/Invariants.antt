use Rattle.std.proofs.Common.{◌-◌, ◌^◌}
use Rattle.sparse_map.specs.Home.{home}
use Rattle.sparse_map.specs.Groups.{slots_of}
use Rattle.sparse_map.proofs.PackedLemmas.{Passing, HasOther}
use Rattle.sparse_map.proofs.table.probe.Given as goal

abbrev pub invariant-loop-passed : goal.invariant-loop-passed
invariant-loop-passed g l = Passing l.buckets (HasOther (slots_of (2 ^ l.bits) l.groups) l.key) (home l.buckets l.key) l.bucket l.passed

abbrev pub decreases-loop-passed : goal.decreases-loop-passed
decreases-loop-passed g l = l.buckets - l.passed
