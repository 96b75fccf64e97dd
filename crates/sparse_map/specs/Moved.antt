-- A list of items that is moved into groups.
use Rattle.std.specs.Prelude.{◌≡◌, ℕ, ◌+◌, ◌<◌, List, [], ◌∷◌, length, Option, None, IsSome, is_some, if◌then◌else◌}
use Rattle.std.specs.Ordering.{nat_cmp}
use Rattle.std.specs.FinMap.{find}
use Rattle.std.specs.List.{flat_map}
use Rattle.sparse_map.specs.declared.group.Group.{Group}
use Rattle.sparse_map.specs.Slots.{items_of}
use Rattle.sparse_map.specs.Groups.{slots_of, IsEmptyFrom, IsTable}
use Rattle.sparse_map.specs.Packed.{IsPacked}
use Rattle.sparse_map.specs.Plan.{plan_of, with_items}

module _ {V : Type 0} where
  -- no key comes twice
  abbrev pub IsDistinct : List (ℕ × V) → Type 0
  IsDistinct [] = Unit {0}
  IsDistinct (e ∷ es) = (find nat_cmp e.0 es ≡ None) × IsDistinct es

  -- the value of a key after the items went into a map in which it had `old`
  abbrev pub after_items : List (ℕ × V) → Option V → ℕ → Option V
  after_items es old q = if is_some (find nat_cmp q es) then find nat_cmp q es else old

  -- the items of all groups
  abbrev pub items_in : List (Group V) → List (ℕ × V)
  items_in us = flat_map (λ u. u.items.items) us

  -- n buckets take these items, whose keys they don't have; enough of the buckets are free
  pub record CanTake (n : ℕ) (groups : List (Group V)) (items : List (ℕ × V)) : Type 0 where
    pub table : IsTable n groups
    pub packed : IsPacked (slots_of n groups)
    pub room : length (items_of (slots_of n groups)) + length items < n
    pub distinct : IsDistinct items
    pub fresh : (q : ℕ) → IsSome (find nat_cmp q items) → find nat_cmp q (items_of (slots_of n groups)) ≡ None

  -- the buckets have taken these items, each at the first free bucket from its home on
  pub record HasTaken (n : ℕ) (old new : List (Group V)) (items : List (ℕ × V)) : Type 0 where
    pub found : (q : ℕ) → find nat_cmp q (items_of (slots_of n new)) ≡ after_items items (find nat_cmp q (items_of (slots_of n old))) q
    pub packed : IsPacked (slots_of n new)
    pub count : length (items_of (slots_of n new)) ≡ length (items_of (slots_of n old)) + length items
    pub rest : IsEmptyFrom n new
    pub plan : plan_of n new ≡ with_items n (plan_of n old) items
