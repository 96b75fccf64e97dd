use Rattle.std.proofs.Common.{◌≡◌, ◌<◌, ◌+◌, ◌-◌, ◌*◌, ◌/◌, ℕ, Some, None, length, get_or}
use Rattle.std.specs.Vec.{vec_capacity}
use Rattle.sparse_map.specs.Plan.{rooms_of}
use Rattle.sparse_map.specs.Heirs.{IsChosen, IsPassedOver, all_brought}
use Rattle.sparse_map.proofs.plan.heirs_of.Given as goal

abbrev pub invariant-loop-source : goal.invariant-loop-source
invariant-loop-source g l = record {
  level : length l.heirs.items ≡ l.source;
  room : vec_capacity l.heirs ≡ length l.groups;
  heirs : (s q : ℕ) → get_or l.heirs.items s None ≡ Some q → IsChosen (rooms_of l.groups) l.counts l.clear s q;
  few : all_brought (rooms_of l.groups) l.counts l.heirs.items l.source + l.left ≡ 8 * (length l.counts / 2);
  kept : (s : ℕ) → s < l.source → get_or l.heirs.items s None ≡ None → IsPassedOver l.counts l.clear s (get_or (rooms_of l.groups) s 0) (8 * (length l.counts / 2) - all_brought (rooms_of l.groups) l.counts l.heirs.items s);
}
