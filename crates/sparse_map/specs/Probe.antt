-- The bucket at which a look-up round the table ends.
use Rattle.std.specs.Prelude.{◌≡◌, ◌≢◌, ℕ, ◌<◌, List, length, Option, Some, None, IsSome, slice_set}
use Rattle.std.specs.Ordering.{nat_cmp}
use Rattle.std.specs.FinMap.{find}
use Rattle.sparse_map.specs.declared.table.Place.{Place}
use Rattle.sparse_map.specs.declared.table.Place.TheVariants.{Found, Free}
use Rattle.sparse_map.specs.Home.{home, steps}
use Rattle.sparse_map.specs.Slots.{slot_at, key_at, items_of}
use Rattle.sparse_map.specs.Packed.{IsPacked}

-- an absent key would go into bucket b: it is free, and each bucket on the way from the key's home is occupied
pub record IsFreeFor {V : Type 0} (slots : List (Option (ℕ × V))) (key b : ℕ) : Type 0 where
  pub inside : b < length slots
  pub free : slot_at slots b ≡ None
  pub reached : (q : ℕ) → q < length slots
      → steps (length slots) (home (length slots) key) q < steps (length slots) (home (length slots) key) b
      → IsSome (key_at slots q)
  pub absent : (q : ℕ) → key_at slots q ≢ Some key

-- bucket b is the first free one from bucket `from` on, going round
pub record IsFirstFree {V : Type 0} (slots : List (Option (ℕ × V))) (from b : ℕ) : Type 0 where
  pub inside : b < length slots
  pub free : slot_at slots b ≡ None
  pub passed : (q : ℕ) → q < length slots → steps (length slots) from q < steps (length slots) from b → IsSome (key_at slots q)

-- a new key went into the first free bucket from its home on, and no other bucket changed
pub record IsPut {V : Type 0} (old new : List (Option (ℕ × V))) (key : ℕ) (value : V) : Type 0 where
  pub bucket : ℕ
  pub place : IsFreeFor old key bucket
  pub slots : new ≡ slice_set old bucket (Some (key, value))

-- a key has another value in its own bucket, and no other bucket changed
pub record IsReplaced {V : Type 0} (old new : List (Option (ℕ × V))) (key : ℕ) (value : V) : Type 0 where
  pub bucket : ℕ
  pub has : key_at old bucket ≡ Some key
  pub slots : new ≡ slice_set old bucket (Some (key, value))

-- the bucket that has the key, or the free bucket into which it would go
abbrev pub IsPlaceOf : {V : Type 0} → List (Option (ℕ × V)) → ℕ → Place → Type 0
IsPlaceOf slots key (Found b) = key_at slots b ≡ Some key
IsPlaceOf slots key (Free b) = IsFreeFor slots key b

-- after the walk of a removal, the item that is removed stands at the hole; once the hole is freed, the packed law
-- holds
pub record IsShifted {V : Type 0} (old new : List (Option (ℕ × V))) (bucket hole : ℕ) : Type 0 where
  pub inside : hole < length new
  pub item : slot_at new hole ≡ slot_at old bucket
  pub once : (a b key : ℕ) → key_at new a ≡ Some key → key_at new b ≡ Some key → a ≡ b
  pub found : (key : ℕ) → find nat_cmp key (items_of new) ≡ find nat_cmp key (items_of old)
  pub count : length (items_of new) ≡ length (items_of old)
  pub packed : IsPacked (slice_set new hole None)
