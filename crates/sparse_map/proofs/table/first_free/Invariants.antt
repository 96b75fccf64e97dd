use Rattle.std.proofs.Common.{◌-◌, ◌^◌}
use Rattle.std.specs.Prelude.{IsSome}
use Rattle.sparse_map.specs.Slots.{key_at}
use Rattle.sparse_map.specs.Groups.{slots_of}
use Rattle.sparse_map.proofs.PackedLemmas.{Passing}
use Rattle.sparse_map.proofs.table.first_free.Given as goal

abbrev pub invariant-loop-passed : goal.invariant-loop-passed
invariant-loop-passed g l = Passing l.buckets (λ q. IsSome (key_at (slots_of (2 ^ l.bits) l.groups) q)) l.from l.bucket l.passed

abbrev pub decreases-loop-passed : goal.decreases-loop-passed
decreases-loop-passed g l = l.buckets - l.passed
