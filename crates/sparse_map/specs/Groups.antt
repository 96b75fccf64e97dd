-- The groups of a map as one table of buckets.
use Rattle.std.specs.Prelude.{◌≡◌, ℕ, ◌+◌, ◌/◌, ◌≤◌, List, length, take, Option, None}
use Rattle.std.specs.List.{flat_map}
use Rattle.sparse_map.specs.declared.group.Group.{Group}
use Rattle.sparse_map.specs.Slots.{group_slots, slot_at}

-- how many groups n buckets take: one for each 64, and one for 32
abbrev pub lists_for : ℕ → ℕ
lists_for n = (n + 32) / 64

module _ {V : Type 0} where
  -- the 64 buckets of a group
  abbrev pub slots_in : Group V → List (Option (ℕ × V))
  slots_in g = group_slots g.occupied g.items.items

  -- the buckets of all groups, in order
  unfoldable pub all_slots : List (Group V) → List (Option (ℕ × V))
  all_slots = flat_map slots_in

  -- the first n of these buckets. They are the buckets of a table of n buckets, which uses half of its group if n is 32
  unfoldable pub slots_of : ℕ → List (Group V) → List (Option (ℕ × V))
  slots_of n groups = take n (all_slots groups)

  -- no item stands in bucket n or past it
  abbrev pub IsEmptyFrom : ℕ → List (Group V) → Type 0
  IsEmptyFrom n groups = (b : ℕ) → n ≤ b → slot_at (all_slots groups) b ≡ None

  -- the groups of a table of n buckets
  pub record IsTable (n : ℕ) (groups : List (Group V)) : Type 0 where
    pub count : length groups ≡ lists_for n
    pub rest : IsEmptyFrom n groups
