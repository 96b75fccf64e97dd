use Rattle.std.proofs.Common.{◌≡◌, ◌^◌, vec_len, reverse}
use Rattle.std.specs.Vec.{vec_capacity}
use Rattle.sparse_map.specs.Plan.{rooms_of}
use Rattle.sparse_map.proofs.TakingLemmas.{Taking}
use Rattle.sparse_map.proofs.moving.place_items.Given as goal

abbrev pub invariant-loop-item : goal.invariant-loop-item
invariant-loop-item g l = record {
  taking : Taking (2 ^ l.bits) l.initial.groups l.fn.items.items l.groups (reverse l.items.items);
  rooms : rooms_of l.groups ≡ rooms_of l.initial.groups;
  capacity : vec_capacity l.items ≡ vec_capacity l.fn.items;
}

abbrev pub decreases-loop-item : goal.decreases-loop-item
decreases-loop-item g l = vec_len l.items
