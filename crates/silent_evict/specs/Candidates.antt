-- The groups that may give way, and the group that does.
use Rattle.std.specs.Prelude.{◌≡◌, ℕ, ◌<◌, ◌≤◌, true, Some}
use Rattle.std.specs.FinMap.{get}
use Rattle.ft_base.specs.declared.geometry.Geometry.{Geometry}
use Rattle.cache_model.specs.declared.entry.Entry.{Entry}
use Rattle.cache_model.specs.Records.{Entries}
pub use Rattle.mapping.specs.Candidates.{IsGroupHeld, HasDataBlock, IsClean, IsCandidate, pages_held}

-- some address of the group is held, and none is dirty
pub record HoldsCleanAlone (g : Geometry) (m : Entries) (group : ℕ) : Type 0 where
  pub held : IsGroupHeld g m group
  pub clean : IsClean g m group

-- a candidate whose data block has the fewest held pages
pub record IsVictim (g : Geometry) (m : Entries) (group : ℕ) : Type 0 where
  pub candidate : IsCandidate g m group
  pub least : (other : ℕ) → IsCandidate g m other → pages_held g m group ≤ pages_held g m other

-- the address is held and dirty
abbrev pub IsDirtyAt : Entries → ℕ → Type 0
IsDirtyAt m a = (e : Entry) × (get m a ≡ Some e) × (e.dirty ≡ true)

-- the group may give way, and its data block has fewer held pages than the other group's
abbrev pub GivesWayBefore : Geometry → Entries → ℕ → ℕ → Type 0
GivesWayBefore g m group other = (pages_held g m group < pages_held g m other) × IsCandidate g m group
