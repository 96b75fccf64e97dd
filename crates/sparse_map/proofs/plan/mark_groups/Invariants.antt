use Rattle.std.proofs.Common.{◌≡◌, ◌^◌, length, take, drop}
use Rattle.sparse_map.specs.Moved.{items_in}
use Rattle.sparse_map.specs.Plan.{planned, with_items, CanCount}
use Rattle.sparse_map.specs.Heirs.{AreClear, AllAreNoted}
use Rattle.sparse_map.proofs.plan.mark_groups.Given as goal

abbrev pub invariant-loop-source : goal.invariant-loop-source
invariant-loop-source g l = record {
  plan : planned l.marks l.counts ≡ with_items (2 ^ l.bits) (planned l.initial.marks l.initial.counts) (items_in (take l.source l.groups));
  small : CanCount (length (items_in (drop l.source l.groups))) l.counts;
  clear : AreClear (2 ^ l.bits) (planned l.initial.marks l.initial.counts) l.groups l.source l.clear;
  all : AllAreNoted (2 ^ l.bits) (planned l.initial.marks l.initial.counts) l.groups l.source l.clear;
  level : length l.counts ≡ length l.initial.counts;
}
