use Rattle.std.proofs.Common.{◌≡◌, ◌≤◌, ◌+◌, ℕ, None, vec_len, length, get_or}
use Rattle.std.specs.Prelude.{replicate}
use Rattle.std.specs.Vec.{vec_capacity}
use Rattle.sparse_map.specs.Slots.{slot_at}
use Rattle.sparse_map.specs.Groups.{all_slots}
use Rattle.sparse_map.specs.Plan.{lens_of, rooms_of}
use Rattle.sparse_map.specs.Heirs.{HeirsAreBare, AreRooms}
use Rattle.sparse_map.proofs.moving.groups_for.Given as goal

abbrev pub invariant-loop-q : goal.invariant-loop-q
invariant-loop-q g l = record {
  count : vec_len l.groups ≡ l.q;
  room : vec_capacity l.groups ≡ length l.counts;
  free : (b : ℕ) → slot_at (all_slots l.groups.items) b ≡ None;
  lens : lens_of l.groups.items ≡ replicate l.q 0;
  rooms : AreRooms (rooms_of l.groups.items) l.counts l.heirs 0;
  bare : HeirsAreBare (rooms_of l.groups.items) l.heirs;
  few : (q : ℕ) → get_or (rooms_of l.groups.items) q 0 ≤ get_or l.counts q 0 + 1;
}
