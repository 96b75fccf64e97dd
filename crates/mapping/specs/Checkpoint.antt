-- The records of a checkpoint of a map.
use Rattle.std.specs.Prelude.{◌≡◌, ℕ, zero, suc, ◌+◌, ◌-◌, ◌*◌, ◌/◌, ◌<◌, ◌≤◌, ◌==◌, true, if◌then◌else◌, List, ◌++◌, map, filter, length, slice_index_or, Option, None, Some}
use Rattle.std.specs.List.{list_any, AllByRecursion}
use Rattle.std.specs.FinMap.{get, entries}
use Rattle.ft_base.specs.declared.geometry.Geometry.{Geometry}
use Rattle.ft_base.specs.declared.record.Record.{Record}
use Rattle.ft_base.specs.declared.record.Record.TheVariants.{SetPage, SetGroup}
use Rattle.cache_model.specs.declared.entry.Entry.{Entry}
use Rattle.cache_model.specs.Records.{Entries}
use Rattle.cache_model.specs.Entries.{groups_with, page_mapped}
use Rattle.mapping.specs.declared.bits.Choice.TheVariants.{Mapped, MappedDirty}
use Rattle.mapping.specs.Bits.{chosen_of}

-- the data block of an entry, or else this one
abbrev pub block_or : Option Entry → ℕ → ℕ
block_or None block = block
block_or (Some e) block = if e.block_mapped then e.place.block else block

-- the data block that has the pages of a group below n
abbrev pub block_below : Entries → ℕ → ℕ → ℕ
block_below m first zero = 0
block_below m first (suc n) = block_or (get m (first + n)) (block_below m first n)

-- the record that sets a group's data block
abbrev pub set_group_of : Geometry → Entries → ℕ → Record
set_group_of g m group = SetGroup group (block_below m (group * g.p) g.p) (chosen_of Mapped g m group) (chosen_of MappedDirty g m group)

-- the record that sets a page of a log block
abbrev pub set_page_of : ℕ × Entry → Record
set_page_of x = SetPage x.0 x.1.place x.1.dirty

-- the groups with a data block, each once, in some order
pub record ListsGroups (g : Geometry) (m : Entries) (groups : List ℕ) : Type 0 where
  pub each : (k : ℕ) → list_any (λ n. n == k) groups ≡ true → (a : ℕ) × (e : Entry) × (get m a ≡ Some e) × (e.block_mapped ≡ true)
      × (a / g.p ≡ k)
  pub all : (a : ℕ) (e : Entry) → get m a ≡ Some e → e.block_mapped ≡ true → list_any (λ n. n == a / g.p) groups ≡ true
  pub once : length groups ≡ length (groups_with g (λ e. e.block_mapped) m)

-- the page-mapped entries, each once, in some order
pub record ListsPages (m : Entries) (pages : List (ℕ × Entry)) : Type 0 where
  pub each : AllByRecursion (λ x. (get m x.0 ≡ Some x.1) × (page_mapped x.1 ≡ true)) pages
  pub all : (a : ℕ) (e : Entry) → get m a ≡ Some e → page_mapped e ≡ true → list_any (λ n. n == a) (map (λ x. x.0) pages) ≡ true
  pub once : length pages ≡ length (filter (λ x. page_mapped x.1) (entries m))

-- a record that sets each group with a data block, and then one that sets each page-mapped entry, each once, in some
-- order
pub record IsCheckpointOf (g : Geometry) (m : Entries) (records : List Record) : Type 0 where
  pub groups : List ℕ
  pub pages : List (ℕ × Entry)
  pub are : records ≡ map (set_group_of g m) groups ++ map set_page_of pages
  pub of_groups : ListsGroups g m groups
  pub of_pages : ListsPages m pages

-- the list has these records from number `from` on, as far as the list goes
pub record HasWindow (records : List Record) (from : ℕ) (out : List Record) : Type 0 where
  pub at : (j : ℕ) (d : Record) → from ≤ j → j < length records → j < from + length out
      → slice_index_or out (j - from) d ≡ slice_index_or records j d
