-- Lists of groups with a few free places.
use Rattle.std.specs.Prelude.{◌≡◌, ℕ, ◌+◌, ◌/◌, ◌≤◌, min}
use Rattle.std.specs.Vec.{vec_len, vec_capacity}
use Rattle.sparse_map.specs.declared.group.Group.{Group}
use Rattle.sparse_map.specs.declared.table.Touched.{Touched}
use Rattle.sparse_map.specs.declared.table.Touched.TheVariants.{Nowhere, In, Anywhere}

-- group i may have been touched
abbrev pub MayBeTouched : Touched → ℕ → Type 0
MayBeTouched Nowhere i = ⊥
MayBeTouched (In bucket) i = i ≡ bucket / 64
MayBeTouched Anywhere i = Unit {0}

module _ {V : Type 0} where
  -- the list has at most four places more than items
  abbrev pub IsTrimmed : Group V → Type 0
  IsTrimmed g = vec_capacity g.items ≤ vec_len g.items + 4

  -- the list has a free place, or places for all that a group can hold
  abbrev pub IsReady : Group V → Type 0
  IsReady g = min 64 (vec_len g.items + 1) ≤ vec_capacity g.items
