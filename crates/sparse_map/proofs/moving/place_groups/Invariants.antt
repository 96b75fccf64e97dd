use Rattle.std.proofs.Common.{◌≡◌, ◌≤◌, ◌^◌, vec_len}
use Rattle.std.specs.Vec.{vec_capacity}
use Rattle.std.specs.Vec.Iter.{into_iter_items}
use Rattle.sparse_map.proofs.TurnLemmas.{AtTurn}
use Rattle.sparse_map.proofs.moving.place_groups.Given as goal

abbrev pub invariant-loop-group : goal.invariant-loop-group
invariant-loop-group g l = record {
  turn : AtTurn (2 ^ l.bits) l.initial.groups l.fn.old.items l.heirs l.source l.groups (into_iter_items l.group-iterator);
  none : vec_len l.held ≡ 0;
  room : 64 ≤ vec_capacity l.held;
}
