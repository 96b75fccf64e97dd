use Rattle.std.proofs.Common.{◌≡◌, ◌^◌, length, drop}
use Rattle.sparse_map.specs.Plan.{planned, with_items, CanCount}
use Rattle.sparse_map.proofs.plan.mark_items.Given as goal

abbrev pub invariant-loop-item : goal.invariant-loop-item
invariant-loop-item g l = record {
  plan : with_items (2 ^ l.bits) (planned l.marks l.counts) (drop l.item-index l.items) ≡ with_items (2 ^ l.bits) (planned l.initial.marks l.initial.counts) l.items;
  small : CanCount (length (drop l.item-index l.items)) l.counts;
}
