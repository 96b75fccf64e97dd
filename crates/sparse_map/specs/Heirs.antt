-- Which lists of old groups new groups take over, as the items move.
use Rattle.std.specs.Prelude.{◌≡◌, ℕ, zero, suc, ◌+◌, ◌-◌, ◌*◌, ◌/◌, ◌<◌, ◌≤◌, ◌⊎◌, Bool, true, false, List, length, take, Option, Some, None, slice_index_or}
use Rattle.std.specs.Vec.{vec_len, vec_capacity}
use Rattle.sparse_map.specs.declared.group.Group.{Group}
use Rattle.sparse_map.specs.Moved.{items_in}
use Rattle.sparse_map.specs.Plan.{Plan, with_items, rooms_of, plan_of}

-- a list with `places` places takes `count` items, and then still has a free place
abbrev pub IsFit : ℕ → ℕ → Type 0
IsFit places count = count + 1 ≤ places

-- the free places of a list beyond four
abbrev pub beyond_four : ℕ → ℕ → ℕ
beyond_four places count = places - (count + 4)

-- the free places beyond four that a list with `places` places brings to its heir
abbrev pub brought : List ℕ → Option ℕ → ℕ → ℕ
brought counts None places = 0
brought counts (Some q) places = beyond_four places (slice_index_or counts q 0)

-- the free places beyond four that the first m old groups hand on, all together
unfoldable pub all_brought : List ℕ → List ℕ → List (Option ℕ) → ℕ → ℕ
all_brought rooms counts heirs zero = 0
all_brought rooms counts heirs (suc m) =
    all_brought rooms counts heirs m + brought counts (slice_index_or heirs m None) (slice_index_or rooms m 0)

-- each list fits the items that are counted for it, or is still to come: from an old group with number `from` or above,
-- whose heir the group is
abbrev pub AreRooms : List ℕ → List ℕ → List (Option ℕ) → ℕ → Type 0
AreRooms rooms counts heirs from =
    (q : ℕ) → q < length rooms → IsFit (slice_index_or rooms q 0) (slice_index_or counts q 0)
    ⊎ ((s : ℕ) × (from ≤ s) × (slice_index_or heirs s None ≡ Some q))

-- q is the new group of old group s that gets more items; it is either one if both get equally many
pub record GetsMore (counts : List ℕ) (s q : ℕ) : Type 0 where
  pub within : q / 2 ≡ s
  pub most : (r : ℕ) → r / 2 ≡ s → slice_index_or counts r 0 ≤ slice_index_or counts q 0

-- old group s hands its list on to new group q, which gets more than the other new group of s. Group q is noted as
-- clear, and the list fits the items that are counted there
pub record IsChosen (rooms counts : List ℕ) (noted : List Bool) (s q : ℕ) : Type 0 where
  pub more : GetsMore counts s q
  pub clear : slice_index_or noted q false ≡ true
  pub fits : IsFit (slice_index_or rooms s 0) (slice_index_or counts q 0)

-- old group s keeps a list with `places` places. It has no new group, or the new group that gets more isn't noted as
-- clear. Or the list has no free place there, or has more free places beyond four than are left
abbrev pub IsPassedOver : List ℕ → List Bool → ℕ → ℕ → ℕ → Type 0
IsPassedOver counts noted s places left =
    (length counts / 2 ≤ s)
    ⊎ ((q : ℕ) × GetsMore counts s q × ((slice_index_or noted q false ≡ false)
    ⊎ ((places ≤ slice_index_or counts q 0) ⊎ (left < beyond_four places (slice_index_or counts q 0)))))

-- a new group that takes over a list has no places of its own before that
abbrev pub HeirsAreBare : List ℕ → List (Option ℕ) → Type 0
HeirsAreBare rooms heirs = (q : ℕ) → slice_index_or heirs (q / 2) None ≡ Some q → slice_index_or rooms q 0 ≡ 0

module _ {V : Type 0} where
  -- the list of a group fits its items
  abbrev pub FitsItems : Group V → Type 0
  FitsItems g = IsFit (vec_capacity g.items) (vec_len g.items)

  -- a new group that is noted belongs to one of the first old groups, two to each. No item goes to it from the groups
  -- before its old group
  abbrev pub AreClear : ℕ → Plan → List (Group V) → ℕ → List Bool → Type 0
  AreClear n plan old first noted =
      (q : ℕ) → slice_index_or noted q false ≡ true
      → (q / 2 < first) × (slice_index_or (with_items n plan (items_in (take (q / 2) old))).counts q 0 ≡ 0)

  -- each of these new groups is noted, if nothing goes to it from the groups before its old group
  abbrev pub AllAreNoted : ℕ → Plan → List (Group V) → ℕ → List Bool → Type 0
  AllAreNoted n plan old first noted =
      (q : ℕ) → q / 2 < first → q / 2 < length plan.counts / 2
      → slice_index_or (with_items n plan (items_in (take (q / 2) old))).counts q 0 ≡ 0 → slice_index_or noted q false ≡ true

  -- new group q can take over the list of old group s. It gets at least as many items as the other new group of s. The
  -- list fits all items that go there, none of which comes from the groups before s
  pub record IsHeir (n : ℕ) (plan : Plan) (old : List (Group V)) (s q : ℕ) : Type 0 where
    pub inside : q < length plan.counts
    pub more : GetsMore (with_items n plan (items_in old)).counts s q
    pub fits : IsFit (slice_index_or (rooms_of old) s 0) (slice_index_or (with_items n plan (items_in old)).counts q 0)
    pub clear : slice_index_or (with_items n plan (items_in (take s old))).counts q 0 ≡ 0

  -- new group q can't take over the list of old group s. Something goes to q from the groups before s, or the list has
  -- no free place there. Or it has more free places beyond four than are left of eight for each two new groups
  abbrev pub IsNoHeir : ℕ → Plan → List (Group V) → List (Option ℕ) → ℕ → ℕ → Type 0
  IsNoHeir n plan old heirs s q =
      let counts = (with_items n plan (items_in old)).counts in
      (0 < slice_index_or (with_items n plan (items_in (take s old))).counts q 0)
      ⊎ ((slice_index_or (rooms_of old) s 0 ≤ slice_index_or counts q 0)
      ⊎ (8 * (length plan.counts / 2) - all_brought (rooms_of old) counts heirs s
      < beyond_four (slice_index_or (rooms_of old) s 0) (slice_index_or counts q 0)))

  -- each old group with an heir has one that can take over its list. An old group without an heir has no new group, or
  -- the new group that gets more can't take it over
  pub record AreHeirs (n : ℕ) (plan : Plan) (old : List (Group V)) (heirs : List (Option ℕ)) : Type 0 where
    pub level : length heirs ≡ length old
    pub each : (s q : ℕ) → slice_index_or heirs s None ≡ Some q → IsHeir n plan old s q
    pub others : (s : ℕ) → s < length old → slice_index_or heirs s None ≡ None
        → (length plan.counts / 2 ≤ s)
        ⊎ ((q : ℕ) × GetsMore (with_items n plan (items_in old)).counts s q × IsNoHeir n plan old heirs s q)

  -- once the lists of old groups are handed on to their heirs, each new group has a list that fits. A new list has at
  -- most one free place. The lists that are handed on bring at most eight free places beyond four for each two new
  -- groups, all together
  pub record ListsFit (n : ℕ) (groups old : List (Group V)) (heirs : List (Option ℕ)) : Type 0 where
    pub handed : AreHeirs n (plan_of n groups) old heirs
    pub rooms : AreRooms (rooms_of groups) (with_items n (plan_of n groups) (items_in old)).counts heirs 0
    pub made : (q : ℕ) → slice_index_or (rooms_of groups) q 0
        ≤ slice_index_or (with_items n (plan_of n groups) (items_in old)).counts q 0 + 1
    pub few : all_brought (rooms_of old) (with_items n (plan_of n groups) (items_in old)).counts heirs (length old)
        ≤ 8 * (length groups / 2)
