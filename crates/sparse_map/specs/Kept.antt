-- The facts that a map keeps true of its fields.
use Rattle.std.specs.Prelude.{◌≡◌, ℕ, ◌+◌, ◌*◌, ◌^◌, ◌<◌, ◌≤◌, List, length, min}
use Rattle.sparse_map.specs.declared.group.Group.{Group}
use Rattle.sparse_map.specs.declared.table.Touched.{Touched}
use Rattle.sparse_map.specs.declared.table.Touched.TheVariants.{Nowhere}
use Rattle.sparse_map.specs.Home.{IsTableSize, buckets_for}
use Rattle.sparse_map.specs.Slots.{items_of}
use Rattle.sparse_map.specs.Groups.{slots_of, lists_for, IsTable}
use Rattle.sparse_map.specs.Places.{sizes_of, loose_of, lacking, past_of, IsBoundedBy}
use Rattle.sparse_map.specs.Packed.{IsPacked}

-- `bits` is the number of bits of a bucket number, or 0 if there is no bucket. There are blank lists for the next new
-- keys, or for all lists that have no places for `spare` more items. A list without a free place, and with fewer than
-- 64, belongs to a group that may have been touched. No list has more than 65 places, and there are at most as many
-- blank lists as lists
pub record KeepsTable {V : Type 0} (bits len spare blanks : ℕ) (touched : Touched) (groups : List (Group V)) : Type 0 where
  pub few : bits ≤ 31
  pub many : 0 < bits → 5 ≤ bits
  pub table : IsTable (buckets_for bits) groups
  pub packed : IsPacked (slots_of (buckets_for bits) groups)
  pub counted : len ≡ length (items_of (slots_of (buckets_for bits) groups))
  pub room : 4 * (len + spare) ≤ 3 * buckets_for bits
  pub stocked : min spare (lacking spare Nowhere (sizes_of groups)) ≤ blanks
  pub ready : lacking 1 touched (sizes_of groups) ≡ 0
  pub short : past_of (sizes_of groups) ≡ 0
  pub few_blanks : blanks ≤ lists_for (buckets_for bits)

-- the map keeps its table, and a bound of the free places beyond four of the lists of all groups that can't have been
-- touched. There is memory for no more groups than there are, and for no more blank lists than groups
pub record KeepsBound {V : Type 0} (bits len spare blanks : ℕ) (touched : Touched) (beyond : ℕ) (groups : List (Group V)) (groups_room blanks_room : ℕ) : Type 0 where
  pub table : KeepsTable bits len spare blanks touched groups
  pub bound : IsBoundedBy beyond (loose_of touched (sizes_of groups))
  pub groups_fit : groups_room ≡ lists_for (buckets_for bits)
  pub blanks_fit : blanks_room ≤ lists_for (buckets_for bits)

-- 2^bits buckets under the packed law, at least one of which is free
pub record HasFreeBucket {V : Type 0} (bits : ℕ) (groups : List (Group V)) : Type 0 where
  pub size : IsTableSize bits
  pub table : IsTable (2 ^ bits) groups
  pub packed : IsPacked (slots_of (2 ^ bits) groups)
  pub room : length (items_of (slots_of (2 ^ bits) groups)) < 2 ^ bits
