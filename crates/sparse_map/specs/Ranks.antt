-- The place that an item has in the list of its group.
use Rattle.std.specs.Prelude.{◌≡◌, ℕ, ◌*◌, ◌/◌, ◌%◌, ◌<◌, List, length, IsSome, slice_index_or}
use Rattle.sparse_map.specs.declared.group.Group.{Group}
use Rattle.sparse_map.specs.declared.table.Place.{Place}
use Rattle.sparse_map.specs.declared.table.Place.TheVariants.{Found, Free}
use Rattle.sparse_map.specs.Slots.{rank, slot_at}
use Rattle.sparse_map.specs.Groups.{all_slots}

module _ {V : Type 0} where
  -- the item of bucket b has, or would get, this place: the number of occupied buckets of its group below b
  abbrev pub IsRankOf : List (Group V) → ℕ → ℕ → Type 0
  IsRankOf groups b place = (e : Group V) → place ≡ rank (slice_index_or groups (b / 64) e).occupied (b % 64)

  -- bucket b is occupied, and its item has this place
  pub record IsSeated (groups : List (Group V)) (b place : ℕ) : Type 0 where
    pub within : b < 64 * length groups
    pub occupied : IsSome (slot_at (all_slots groups) b)
    pub rank : IsRankOf groups b place

  -- the bucket at which a look-up ended has this place, or its item would get it
  abbrev pub IsRankAt : List (Group V) → Place → ℕ → Type 0
  IsRankAt groups (Found b) place = IsRankOf groups b place
  IsRankAt groups (Free b) place = IsRankOf groups b place
