-- The facts that a map keeps true of its parts.
use Rattle.std.specs.Prelude.{◌≡◌, ℕ, ◌≤◌, ◌^◌, List}
use Rattle.ft_base.specs.declared.geometry.Geometry.{Geometry}
use Rattle.cache_model.specs.Entries.{IsMap}
use Rattle.mapping.specs.declared.index.Index.{Index}
use Rattle.mapping.specs.Candidates.{AreCandidates}
use Rattle.mapping.specs.declared.marks.MarkedGroups.{MarkedGroups}
use Rattle.mapping.specs.MarkedGroups.{AreMarkedGroups}
use Rattle.mapping.specs.Index.{IsIndex}
use Rattle.mapping.specs.Packed.{HeldValue}

-- the entries are a map, the index and the counts beside them are theirs, and the map has at least the room that it
-- gives
pub record KeepsMap (g : Geometry) (held : HeldValue) (kept : Index) (candidates : List ℕ) (marked : MarkedGroups) (pages groups : ℕ) : Type 0 where
  pub geometry : held.geometry ≡ g
  pub is_map : IsMap g held.entries
  pub index : IsIndex g held.entries kept
  pub are_candidates : AreCandidates g held.entries candidates
  pub marked_groups : AreMarkedGroups g held.entries marked
  pub room_pages : pages ≤ held.spare_pages
  pub room_groups : groups ≤ held.spare_blocks
  pub few_pages : pages ≤ 2 ^ 20
  pub few_groups : groups ≤ 2 ^ 20
