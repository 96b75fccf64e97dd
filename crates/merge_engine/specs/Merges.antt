-- How a merge changes the entries and the list.
use Rattle.std.specs.Prelude.{◌≡◌, ◌⊎◌, ◌<◌, ◌/◌, ◌%◌, ◌+◌, ℕ, Some, not}
use Rattle.std.specs.FinMap.{get, retain_keys}
use Rattle.ft_base.specs.declared.geometry.Geometry.{Geometry}
use Rattle.ft_base.specs.declared.block.Place.{Place}
use Rattle.ft_base.specs.declared.block.Page.{Page}
use Rattle.ft_base.specs.declared.record.Record.{Record}
use Rattle.ft_base.specs.declared.record.Record.TheVariants.{SetGroup}
use Rattle.ft_media.specs.declared.rig.Counts.{Counts}
use Rattle.ft_media.specs.Media.{program_counted, erase_counted}
use Rattle.cache_model.specs.declared.entry.Entry.{Entry}
use Rattle.cache_model.specs.Records.{Entries, after, is_in_group}
use Rattle.cache_model.specs.CacheList.{CacheList}
use Rattle.cache_model.specs.Stands.{FlashStandsFor}
use Rattle.checkpoint.specs.Counts.{programs_counted}
use Rattle.mapping.specs.declared.bits.Choice.TheVariants.{Held, Dirty}
use Rattle.mapping.specs.Bits.{chosen_of}
use Rattle.mapping.specs.Counts.{data_block_count}
use Rattle.silent_evict.specs.Candidates.{HasDataBlock}

-- the record that puts all held blocks of the group into this erase block
abbrev pub move_record : Geometry → Entries → ℕ → ℕ → Record
move_record g m group block = SetGroup group block (chosen_of Held g m group) (chosen_of Dirty g m group)

-- the entries after the group moved into this erase block
abbrev pub moved : Geometry → Entries → ℕ → ℕ → Entries
moved g m group block = after g (move_record g m group block) m

-- the list without the group
abbrev pub list_without : Geometry → ℕ → CacheList → CacheList
list_without g group s = retain_keys s (λ a. not (is_in_group g group a))

-- the group has a data block, or there is room for one more
abbrev pub HasBlockOrRoom : Geometry → Entries → ℕ → Type 0
HasBlockOrRoom g m group = HasDataBlock g m group ⊎ (data_block_count g m < g.c)

-- entries of other groups stay
abbrev pub OthersStay : Geometry → ℕ → Entries → Entries → Type 0
OthersStay g group old new = (a : ℕ) → (a / g.p ≡ group → ⊥) → get new a ≡ get old a

-- the flash stands for one of two lists
abbrev pub FlashStandsForEither : Geometry → (Place → Page) → CacheList → CacheList → Type 0
FlashStandsForEither g page s t = FlashStandsFor g page s ⊎ FlashStandsFor g page t

-- ---- the cost of a merge

-- the group has this many pages up to the last held one
pub record ReachesTo (g : Geometry) (m : Entries) (group pages : ℕ) : Type 0 where
  pub last : ℕ
  pub entry : Entry
  pub held : get m last ≡ Some entry
  pub in_group : last / g.p ≡ group
  pub number : last % g.p + 1 ≡ pages
  pub all : (a : ℕ) (e : Entry) → get m a ≡ Some e → a / g.p ≡ group → a % g.p < pages

-- the counts after a group of this many pages was moved: one erase, a program for each page, and one for the log page
abbrev pub move_counted : ℕ → Counts → Counts
move_counted pages counts = program_counted (programs_counted pages (erase_counted counts))
