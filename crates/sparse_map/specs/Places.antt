-- The sizes of the groups' lists: how many items each has, and how many places.
use Rattle.std.specs.Prelude.{ℕ, ◌+◌, ◌-◌, ◌*◌, ◌/◌, ◌^◌, ◌≤◌, nat_lt, min, max, List, map, slice_index_or, if◌then◌else◌}
use Rattle.std.specs.List.{sum_by}
use Rattle.std.specs.Vec.{vec_len, vec_capacity}
use Rattle.sparse_map.specs.declared.group.Group.{Group}
use Rattle.sparse_map.specs.declared.table.Touched.{Touched}
use Rattle.sparse_map.specs.declared.table.Touched.TheVariants.{Nowhere, In, Anywhere}

module _ {V : Type 0} where
  -- how many items and places a group's list has
  abbrev pub list_size : Group V → ℕ × ℕ
  list_size g = (vec_len g.items, vec_capacity g.items)

  -- the items and places of the lists of all groups
  unfoldable pub sizes_of : List (Group V) → List (ℕ × ℕ)
  sizes_of = map list_size

-- the places of all lists, free ones included
unfoldable pub places_of : List (ℕ × ℕ) → ℕ
places_of = sum_by (λ s. s.1)

-- the free places of a list beyond four
unfoldable pub extra : ℕ × ℕ → ℕ
extra s = s.1 - (s.0 + 4)

-- how many places a full list with `len` items gets if it may have `more` places more. It gets at most 48, or four more
-- than items if that is more, and at most 64
abbrev pub grown_to : ℕ → ℕ → ℕ
grown_to len more = min (len + more) (min 64 (max 48 (len + 4)))

-- 1 for a list that has no place for n more items, nor for all that a group can hold; 0 for any other list
unfoldable pub lacks : ℕ → ℕ × ℕ → ℕ
lacks n s = if nat_lt s.1 (min 64 (s.0 + n)) then 1 else 0

-- the sum over all groups but the ones that may have been touched
unfoldable pub sum_untouched : (ℕ × ℕ → ℕ) → Touched → List (ℕ × ℕ) → ℕ
sum_untouched f Nowhere s = sum_by f s
sum_untouched f (In bucket) s = sum_by f s - f (slice_index_or s (bucket / 64) (64, 64))
sum_untouched f Anywhere s = 0

-- the free places beyond four, summed over the lists of these groups
abbrev pub loose_of : Touched → List (ℕ × ℕ) → ℕ
loose_of = sum_untouched extra

-- how many lists of these groups have no place for n more items, nor for all that a group can hold
abbrev pub lacking : ℕ → Touched → List (ℕ × ℕ) → ℕ
lacking n = sum_untouched (lacks n)

-- the places of a list past 65, which are one more than the items of a whole group
unfoldable pub past_most : ℕ × ℕ → ℕ
past_most s = s.1 - 65

-- the places past 65 of all lists
abbrev pub past_of : List (ℕ × ℕ) → ℕ
past_of = sum_untouched past_most Nowhere

-- how many free places beyond four this many lists may have, all together, before they are trimmed. These are the
-- places by which full lists may grow, and one more for each list
abbrev pub most_loose : ℕ → ℕ
most_loose lists = 8 * (lists / 2) + lists

-- n is bounded by `beyond`, if that is less than 2^64 - 1, which bounds nothing
unfoldable pub IsBoundedBy : ℕ → ℕ → Type 0
IsBoundedBy beyond n = min n (2 ^ 64 - 1) ≤ beyond
