-- The dirty groups in order of use.
use Rattle.std.specs.Prelude.{ℕ, ◌-◌, ◌==◌, List, [], ◌∷◌, length, slice_get, Bool, Option, if◌then◌else◌}
use Rattle.std.specs.List.{list_any}

-- the groups, the last touched first, and the most groups that there may be
pub record Groups : Type 0 where
  pub order : List ℕ
  pub limit : ℕ

abbrev pub groups_in_order : List ℕ → ℕ → Groups
groups_in_order order limit = record { order = order; limit = limit }

-- the group is in the list
abbrev pub has : ℕ → List ℕ → Bool
has group order = list_any (λ one. group == one) order

-- the list without the first place of the group
abbrev pub without_first : ℕ → List ℕ → List ℕ
without_first group [] = []
without_first group (one ∷ rest) = if group == one then rest else one ∷ without_first group rest

-- the group goes to the front
abbrev pub touched : ℕ → List ℕ → List ℕ
touched group order = group ∷ without_first group order

-- the last of the list
abbrev pub oldest_of : List ℕ → Option ℕ
oldest_of order = slice_get order (length order - 1)
