use Rattle.std.proofs.Common.{◌≡◌, ◌+◌, ◌++◌, ◌≤◌, vec_len, length}
use Rattle.std.specs.Vec.{vec_capacity}
use Rattle.std.specs.Vec.Iter.{into_iter_items}
use Rattle.sparse_map.proofs.group.move_items.Given as goal

abbrev pub invariant-loop-item : goal.invariant-loop-item
invariant-loop-item g l = record {
  items : l.list.items ++ into_iter_items l.item-iterator ≡ l.initial.list.items ++ l.fn.items.items;
  room : vec_len l.list + length (into_iter_items l.item-iterator) ≤ vec_capacity l.list;
  capacity : vec_capacity l.list ≡ vec_capacity l.initial.list;
}
