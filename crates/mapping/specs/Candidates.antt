-- Which groups may give way, and how many pages of their data blocks are held.
use Rattle.std.specs.Prelude.{◌≡◌, ℕ, ◌+◌, ◌-◌, ◌/◌, ◌<◌, ◌≤◌, ◌↔◌, Bool, true, false, List, length, slice_index_or, slice_set, Option, None, Some, IfSome, IfNone, IsTrue, ◌⊎◌}
use Rattle.std.specs.FinMap.{get}
use Rattle.ft_base.specs.declared.geometry.Geometry.{Geometry}
use Rattle.ft_base.specs.Layout.{first_pool, blocks}
use Rattle.cache_model.specs.declared.entry.Entry.{Entry}
use Rattle.cache_model.specs.Records.{Entries}
use Rattle.cache_model.specs.Entries.{IsMap}
use Rattle.block_map.specs.PageSets.{BlockPages, page_count}
use Rattle.mapping.specs.declared.bits.Choice.TheVariants.{Mapped}
use Rattle.mapping.specs.declared.marks.Mark.TheVariants.{Dirty}
use Rattle.mapping.specs.Bits.{chosen_of, IsDataBlock}
use Rattle.mapping.specs.Numbers.{IsGroupIn}
use Rattle.mapping.specs.Seeking.{HasMarkIn}

-- some address of the group is held
abbrev pub IsGroupHeld : Geometry → Entries → ℕ → Type 0
IsGroupHeld g m group = (a : ℕ) × (e : Entry) × (get m a ≡ Some e) × (a / g.p ≡ group)

-- some address of the group is held in a data block
abbrev pub HasDataBlock : Geometry → Entries → ℕ → Type 0
HasDataBlock g m group = (a : ℕ) × (e : Entry) × (get m a ≡ Some e) × (a / g.p ≡ group) × (e.block_mapped ≡ true)

-- no address of the group is dirty
abbrev pub IsClean : Geometry → Entries → ℕ → Type 0
IsClean g m group = (a : ℕ) (e : Entry) → get m a ≡ Some e → a / g.p ≡ group → e.dirty ≡ false

-- some address of the group is held in a data block, and no address of the group is dirty
pub record IsCandidate (g : Geometry) (m : Entries) (group : ℕ) : Type 0 where
  pub some : HasDataBlock g m group
  pub clean : IsClean g m group

-- how many pages of the group's data block are held
abbrev pub pages_held : Geometry → Entries → ℕ → ℕ
pages_held g m group = page_count g.p (chosen_of Mapped g m group)

-- the erase block is the data block of a group that may give way, and this many of its pages are held
pub record IsCandidateIn (g : Geometry) (m : Entries) (block count : ℕ) : Type 0 where
  pub group : ℕ
  pub candidate : IsCandidate g m group
  pub in_block : IsGroupIn g m block group
  pub pages : count ≡ pages_held g m group

-- for each erase block of the pool: how many pages are held in it, if it is the data block of a group that may give
-- way; else 65,535
pub record AreCandidates (g : Geometry) (m : Entries) (counts : List ℕ) : Type 0 where
  pub long : length counts ≡ g.c + g.l + 1
  pub counted : (i : ℕ) → i < length counts → (slice_index_or counts i 0 ≡ 65535)
      ⊎ IsCandidateIn g m (first_pool g + i) (slice_index_or counts i 0)
  pub all : (group block : ℕ) → IsCandidate g m group → IsGroupIn g m block group
      → slice_index_or counts (block - first_pool g) 0 ≡ pages_held g m group

-- the erase block of a data block is one of the pool
abbrev pub StandsInPool : Geometry → BlockPages → Type 0
StandsInPool g b = (first_pool g ≤ b.block) × (b.block < blocks g)

-- the list with this count at the erase block of a data block, if there is one
abbrev pub with_count : Geometry → Option BlockPages → ℕ → List ℕ → List ℕ
with_count g None count counts = counts
with_count g (Some b) count counts = slice_set counts (b.block - first_pool g) count

-- two maps that differ in one group alone, with its data block in each, and whether the group is dirty in the second
pub record ChangesOne (g : Geometry) (m n : Entries) (group : ℕ) (before now : Option BlockPages) (dirty : Bool) : Type 0 where
  pub old_map : IsMap g m
  pub new_map : IsMap g n
  pub others : (a : ℕ) → (a / g.p ≡ group → ⊥) → get n a ≡ get m a
  pub had_block : IfSome before (IsDataBlock g m group)
  pub had_none : IfNone before (chosen_of Mapped g m group ≡ 0)
  pub has_block : IfSome now (IsDataBlock g n group)
  pub has_none : IfNone now (chosen_of Mapped g n group ≡ 0)
  pub is_dirty : IsTrue dirty ↔ HasMarkIn g n Dirty group
