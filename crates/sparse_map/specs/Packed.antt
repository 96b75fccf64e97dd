-- The packed law, and the parts of a `SparseMap` that a contract sees.
use Rattle.std.specs.Prelude.{◌≡◌, ℕ, ◌+◌, ◌-◌, ◌*◌, ◌/◌, ◌^◌, ◌<◌, ◌≤◌, min, max, List, length, Option, Some, IsSome, refl}
use Rattle.std.specs.Ordering.{nat_cmp}
use Rattle.std.specs.FinMap as map
use Rattle.std.specs.Coded.{Coded, code_by, coded×, coded_list, coded_option, coded_ℕ}
use Rattle.sparse_map.specs.Home.{home, steps}
use Rattle.sparse_map.specs.Slots.{key_at, items_of}
use Rattle.sparse_map.specs.Groups.{lists_for}

-- each key stands in one bucket, and every bucket from its home up to its own, going round, is occupied
pub record IsPacked {V : Type 0} (slots : List (Option (ℕ × V))) : Type 0 where
  pub once : (a b key : ℕ) → key_at slots a ≡ Some key → key_at slots b ≡ Some key → a ≡ b
  pub reached : (b key q : ℕ) → key_at slots b ≡ Some key → q < length slots
      → steps (length slots) (home (length slots) key) q ≤ steps (length slots) (home (length slots) key) b
      → IsSome (key_at slots q)

-- the buckets in order, each empty or with a key and its value, and how many new keys there is room for. Then the
-- memory: the places of the groups' lists, and the blank lists of 64 places that are kept ready. `loose` has the free
-- places beyond four for each 32 buckets, in all, that removals may have left in lists that weren't touched. `peak` has
-- the places of old and new lists, all together, when the buckets doubled last
pub record PackedTable (V : Type 0) : Type 0 where
  pub slots : List (Option (ℕ × V))
  pub spare : ℕ
  pub places : ℕ
  pub blanks : ℕ
  pub loose : ℕ
  pub peak : ℕ

module _ {V : Type 0} where
  abbrev pub table_code : Coded V → Coded (PackedTable V)
  table_code v =
      code_by (List (Option (ℕ × V)) × (ℕ × (ℕ × (ℕ × (ℕ × ℕ)))))
      (coded× (coded_list (coded_option (coded× coded_ℕ v))) (coded× coded_ℕ (coded× coded_ℕ (coded× coded_ℕ (coded× coded_ℕ coded_ℕ)))))
      (λ t. (t.slots, (t.spare, (t.places, (t.blanks, (t.loose, t.peak))))))
      (λ p. record { slots = p.0; spare = p.1.0; places = p.1.1.0; blanks = p.1.1.1.0; loose = p.1.1.1.1.0; peak = p.1.1.1.1.1 })
      (λ _. refl)

  -- the map from keys to values
  unfoldable pub map_of : PackedTable V → map.FinMap nat_cmp V
  map_of t = map.from_entries (items_of t.slots)

  -- how many keys the map has
  abbrev pub len_of : PackedTable V → ℕ
  len_of t = map.len (map_of t)

  abbrev pub buckets_of : PackedTable V → ℕ
  buckets_of t = length t.slots

  -- how many lists the map has: one for each 64 buckets, and one for 32
  abbrev pub lists_of : PackedTable V → ℕ
  lists_of t = lists_for (buckets_of t)

  -- the places of all lists, free ones and blank lists included
  abbrev pub memory_of : PackedTable V → ℕ
  memory_of t = t.places + 64 * t.blanks

  -- a map as a reservation leaves it. Its places are at most its items, four free ones for each 32 buckets, and the
  -- ones that removals left, at most one for each list. There are at most as many blank lists as new keys that have
  -- room, and as lists
  pub record IsFitted (t : PackedTable V) : Type 0 where
    pub places : t.places ≤ len_of t + buckets_of t / 8 + t.loose
    pub loose : t.loose ≤ lists_of t
    pub blanks : t.blanks ≤ min t.spare (lists_of t)

  -- a map as a doubling leaves it: removals have left no free place, and there is no blank list for a single new key.
  -- The old and the new lists were there at once. No place was counted twice, in a count that ends at 2^64 - 1
  pub record IsWidened (old new : PackedTable V) : Type 0 where
    pub loose : new.loose ≡ 0
    pub blanks : new.spare ≤ 1 → new.blanks ≡ 0
    pub least : min (max (memory_of old) (memory_of new)) (2 ^ 64 - 1) ≤ new.peak
    pub most : new.peak ≤ memory_of old + memory_of new

  -- facts that hold of every map. The packed law holds, and at most three quarters of the buckets are taken or spoken
  -- for. There are no buckets or a power of two of them, at least 32. Each list has at most 65 places, and there are at
  -- most as many blank lists as lists
  pub record IsSound (t : PackedTable V) : Type 0 where
    pub packed : IsPacked t.slots
    pub room : 4 * (len_of t + t.spare) ≤ 3 * buckets_of t
    pub buckets : 0 < buckets_of t → (b : ℕ) × (5 ≤ b) × (buckets_of t ≡ 2 ^ b)
    pub places : t.places ≤ 65 * lists_of t
    pub blanks : t.blanks ≤ lists_of t
