-- The groups that have an entry with a mark.
use Rattle.std.specs.Prelude.{◌≡◌, ℕ, ◌≤◌, length}
use Rattle.std.specs.FinMap.{retain_keys}
use Rattle.ft_base.specs.declared.geometry.Geometry.{Geometry}
use Rattle.cache_model.specs.Records.{Entries, is_in_group}
use Rattle.mapping.specs.declared.marks.MarkedGroups.{MarkedGroups}
use Rattle.mapping.specs.Counts.{dirty_group_count, data_block_count}
use Rattle.mapping.specs.DirtyGroups.{DirtyCounts, count_of}
use Rattle.mapping.specs.Index.{tally}

-- how many addresses of a group are dirty
abbrev pub dirty_in : Geometry → Entries → ℕ → ℕ
dirty_in g m group = tally (λ e. e.dirty) (retain_keys m (is_in_group g group))

-- each dirty group with the count of its dirty addresses, and room for C of them
pub record AreDirtyGroups (g : Geometry) (m : Entries) (dirty : DirtyCounts) : Type 0 where
  pub each : (group : ℕ) → count_of dirty.pairs group ≡ dirty_in g m group
  pub many : length dirty.pairs ≡ dirty_group_count g m
  pub room : g.c ≤ dirty.room

-- the dirty groups, and how many groups have a data block
pub record AreMarkedGroups (g : Geometry) (m : Entries) (marked : MarkedGroups) : Type 0 where
  pub dirty : AreDirtyGroups g m marked.dirty
  pub data_blocks : marked.data_blocks ≡ data_block_count g m
