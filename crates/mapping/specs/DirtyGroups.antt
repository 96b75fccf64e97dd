-- How many addresses of each group are dirty.
use Rattle.std.specs.Prelude.{◌≡◌, ◌≢◌, ℕ, ◌<◌, ◌≤◌, ◌==◌, List, [], ◌∷◌, length, slice_index_or, if◌then◌else◌}

-- groups, each with a count
abbrev pub Pairs : Type 0
Pairs = List (ℕ × ℕ)

-- the count of a group, or 0 if it isn't there
abbrev pub count_of : Pairs → ℕ → ℕ
count_of [] group = 0
count_of (x ∷ xs) group = if x.0 == group then x.1 else count_of xs group

-- the group and the count of the pair at place i
abbrev pub group_at : Pairs → ℕ → ℕ
group_at xs i = let pair = slice_index_or xs i (0, 0) in pair.0

abbrev pub count_at : Pairs → ℕ → ℕ
count_at xs i = let pair = slice_index_or xs i (0, 0) in pair.1

-- the groups rise, and each count is above 0
pub record IsCounted (xs : Pairs) : Type 0 where
  pub rise : (i j : ℕ) → i < j → j < length xs → group_at xs i < group_at xs j
  pub some : (i : ℕ) → i < length xs → 0 < count_at xs i

-- the pair at place i has the group
pub record IsAt (xs : Pairs) (group i : ℕ) : Type 0 where
  pub within : i < length xs
  pub has_group : group_at xs i ≡ group

-- the group would go to place i: lower groups before it, and higher groups from it on
pub record IsGapFor (xs : Pairs) (group i : ℕ) : Type 0 where
  pub within : i ≤ length xs
  pub lower : (j : ℕ) → j < i → group_at xs j < group
  pub higher : (j : ℕ) → i ≤ j → j < length xs → group < group_at xs j

-- the group has this count now, and each other group has what it had
pub record SetsOnly (old new : Pairs) (group count : ℕ) : Type 0 where
  pub here : count_of new group ≡ count
  pub others : (k : ℕ) → k ≢ group → count_of new k ≡ count_of old k

-- the counts, and for how many groups there is room
pub record DirtyCounts : Type 0 where
  pub pairs : Pairs
  pub room : ℕ
