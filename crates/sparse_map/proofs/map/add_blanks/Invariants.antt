use Rattle.std.proofs.Common.{◌≡◌, ◌≤◌, ◌+◌, max, vec_len}
use Rattle.std.specs.Vec.{vec_capacity}
use Rattle.sparse_map.proofs.map.add_blanks.Given as goal

abbrev pub invariant-loop-more : goal.invariant-loop-more
invariant-loop-more g l = record {
  here : vec_len l.stock ≡ vec_len l.fn.stock + l._more;
  enough : l.fn.wanted ≤ vec_capacity l.stock;
  room : vec_capacity l.stock ≤ max (vec_capacity l.fn.stock) l.fn.wanted;
}
