-- The buckets that keys take when they go into a table one after another, and how many each group gets, found before
-- any item moves.
use Rattle.std.specs.Prelude.{◌≡◌, ◌≢◌, ℕ, zero, suc, ◌+◌, ◌/◌, ◌^◌, ◌<◌, ◌≤◌, ◌==◌, Bool, true, false, List, [], ◌∷◌, length, map, replicate, is_some, slice_index_or, slice_set, if◌then◌else◌}
use Rattle.std.specs.Vec.{vec_len, vec_capacity}
use Rattle.sparse_map.specs.declared.group.Group.{Group}
use Rattle.sparse_map.specs.Home.{home}
use Rattle.sparse_map.specs.Groups.{slots_of, lists_for}

-- which buckets are occupied, and how many in each group
pub record Plan : Type 0 where
  pub marks : List Bool
  pub counts : List ℕ

abbrev pub planned : List Bool → List ℕ → Plan
planned marks counts = record { marks = marks; counts = counts }

-- the first unmarked one of n buckets from `at` on, going round; at most `more` buckets are looked at
unfoldable pub first_unmarked : ℕ → ℕ → ℕ → List Bool → ℕ
first_unmarked n zero at marks = at
first_unmarked n (suc more) at marks = if slice_index_or marks at false then first_unmarked n more (if at + 1 == n then 0 else at + 1)
    marks else at

-- the plan with one more key, which takes the first unmarked bucket from its home on
unfoldable pub with_key : ℕ → Plan → ℕ → Plan
with_key n plan key =
    let b = first_unmarked n n (home n key) plan.marks in
    planned (slice_set plan.marks b true) (slice_set plan.counts (b / 64) (slice_index_or plan.counts (b / 64) 0 + 1))

-- no count passes its type's end with this many more keys
abbrev pub CanCount : ℕ → List ℕ → Type 0
CanCount more counts = (i : ℕ) → slice_index_or counts i 0 + more < 2 ^ 32

-- n buckets with no key
abbrev pub blank_plan : ℕ → Plan
blank_plan n = planned (replicate n false) (replicate (lists_for n) 0)

-- the list of each group has a place for each item that is counted there
abbrev pub RoomsFit : List ℕ → List ℕ → Type 0
RoomsFit rooms counts = (i : ℕ) → i < length rooms → slice_index_or counts i 0 ≤ slice_index_or rooms i 0

-- after an insertion into the list of group i, this many of its places are free. But it is 0 if a list of another size
-- has replaced that list
pub record TellsFree (lens before after : List ℕ) (i free : ℕ) : Type 0 where
  pub own : slice_index_or after i 0 ≡ slice_index_or before i 0 → slice_index_or lens i 0 + free ≡ slice_index_or after i 0
  pub other : slice_index_or after i 0 ≢ slice_index_or before i 0 → free ≡ 0

module _ {V : Type 0} where
  -- the plan with the keys of these items, one after another
  abbrev pub with_items : ℕ → Plan → List (ℕ × V) → Plan
  with_items n plan [] = plan
  with_items n plan (e ∷ es) = with_items n (with_key n plan e.0) es

  -- how many items each group has
  abbrev pub lens_of : List (Group V) → List ℕ
  lens_of = map (λ g. vec_len g.items)

  -- how many places each group's list has
  abbrev pub rooms_of : List (Group V) → List ℕ
  rooms_of = map (λ g. vec_capacity g.items)

  -- the plan of the groups of n buckets before any key is added
  abbrev pub plan_of : ℕ → List (Group V) → Plan
  plan_of n groups = planned (map is_some (slots_of n groups)) (lens_of groups)
