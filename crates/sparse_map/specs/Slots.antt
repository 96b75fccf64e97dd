-- Buckets in order, each empty or with its item, and how a group packs 64 of them.
use Rattle.std.specs.Prelude.{ℕ, ◌%◌, ◌*◌, ◌^◌, ◌==◌, List, map, take, drop, Option, None, slice_get, slice_index_or, slice_set, count_ones, option_map, if◌then◌else◌}
use Rattle.std.specs.Int.{bit_at}
use Rattle.std.specs.List.{range_with_len, flat_map}
use Rattle.std.specs.Option.{option_to_list}

-- how many of the buckets below bucket k are occupied
unfoldable pub rank : ℕ → ℕ → ℕ
rank occupied k = count_ones (occupied % 2 ^ k)

module _ {X : Type 0} where
  -- the item of bucket k of a group: its place in the list is the number of occupied buckets below it
  abbrev pub unpacked : ℕ → List X → ℕ → Option X
  unpacked occupied items k = if bit_at occupied k == 1 then slice_get items (rank occupied k) else None

  -- the 64 buckets of a group
  unfoldable pub group_slots : ℕ → List X → List (Option X)
  group_slots occupied items = map (unpacked occupied items) (range_with_len 0 64)

  -- the items of the occupied buckets, in bucket order
  unfoldable pub items_of : List (Option X) → List X
  items_of = flat_map option_to_list

  -- the item of bucket b, if it has one
  abbrev pub slot_at : List (Option X) → ℕ → Option X
  slot_at slots b = slice_index_or slots b None

  -- the 32 buckets of group i, in the numbering in which two groups share a list
  abbrev pub group : List (Option X) → ℕ → List (Option X)
  group slots i = take 32 (drop (32 * i) slots)

-- the key in bucket b
abbrev pub key_at : {V : Type 0} → List (Option (ℕ × V)) → ℕ → Option ℕ
key_at slots b = option_map (λ e. e.0) (slot_at slots b)

-- the buckets after the items of two of them are exchanged
abbrev pub exchanged : {X : Type 0} → List (Option X) → ℕ → ℕ → List (Option X)
exchanged slots a b = slice_set (slice_set slots a (slot_at slots b)) b (slot_at slots a)
