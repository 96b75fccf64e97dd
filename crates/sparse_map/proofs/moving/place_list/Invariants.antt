use Rattle.std.proofs.Common.{◌≡◌, ◌^◌}
use Rattle.std.specs.Vec.Iter.{into_iter_items}
use Rattle.sparse_map.specs.Plan.{rooms_of}
use Rattle.sparse_map.proofs.TakingLemmas.{Taking}
use Rattle.sparse_map.proofs.moving.place_list.Given as goal

abbrev pub invariant-loop-item : goal.invariant-loop-item
invariant-loop-item g l = record {
  taking : Taking (2 ^ l.bits) l.initial.groups l.fn.items.items l.groups (into_iter_items l.item-iterator);
  rooms : rooms_of l.groups ≡ rooms_of l.initial.groups;
}
