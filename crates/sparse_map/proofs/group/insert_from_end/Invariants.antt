use Rattle.std.proofs.Common.{◌≡◌, ◌+◌, ◌≤◌, vec_len}
use Rattle.std.specs.Prelude.{insert}
use Rattle.std.specs.Vec.{vec_capacity}
use Rattle.sparse_map.proofs.group.insert_from_end.Given as goal

abbrev pub invariant-loop-at : goal.invariant-loop-at
invariant-loop-at g l = record {
  items : l.items.items ≡ insert l.fn.items.items l.at l.fn.item;
  len : vec_len l.items ≡ vec_len l.fn.items + 1;
  at : l.at ≤ vec_len l.fn.items;
  place : l.place ≤ l.at;
  capacity : vec_capacity l.items ≡ vec_capacity l.fn.items;
}

abbrev pub decreases-loop-at : goal.decreases-loop-at
decreases-loop-at g l = l.at
