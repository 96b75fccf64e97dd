use Rattle.std.proofs.Common.{◌≡◌, ◌-◌, ◌^◌, set, None}
use Rattle.std.specs.Prelude.{IsSome}
use Rattle.sparse_map.specs.Slots.{slot_at}
use Rattle.sparse_map.specs.Ranks.{IsRankOf}
use Rattle.sparse_map.specs.Groups.{all_slots, slots_of, IsTable}
use Rattle.sparse_map.specs.Places.{sizes_of}
use Rattle.sparse_map.specs.Removal.{shifted_back}
use Rattle.sparse_map.proofs.ShiftLemmas.{Walked}
use Rattle.sparse_map.proofs.table.shift_back.Given as goal

abbrev pub invariant-loop-step : goal.invariant-loop-step
invariant-loop-step g l = record {
  walked : Walked l.buckets (slots_of (2 ^ l.bits) l.initial.groups) (slots_of (2 ^ l.bits) l.groups) l.bucket l.hole l.at l._step;
  back : shifted_back l.buckets (l.buckets - l._step) l.hole l.at (set (slots_of (2 ^ l.bits) l.groups) l.hole None) ≡ shifted_back l.buckets (l.buckets - 1) l.bucket l.bucket (set (slots_of (2 ^ l.bits) l.initial.groups) l.bucket None);
  sizes : sizes_of l.groups ≡ sizes_of l.initial.groups;
  table : IsTable (2 ^ l.bits) l.groups;
  here : IsSome (slot_at (all_slots l.groups) l.at);
  at_rank : IsRankOf l.groups l.at l.at_rank;
  hole_rank : IsRankOf l.groups l.hole l.hole_rank;
}
