-- How the log blocks change when the open one has no page left.
use Rattle.std.specs.Prelude.{◌≡◌, ◌≢◌, ◌↔◌, ◌<◌, ◌≤◌, ℕ, Bool, true, false, List, [], ◌∷◌, ◌++◌, filter, slice_get, Some}
use Rattle.ft_base.specs.Layout.{log_pages}
use Rattle.ft_media.specs.declared.rig.Counts.{Counts}
use Rattle.ft_media.specs.Media.{program_counted, erase_counted}
use Rattle.cache_model.specs.Records.{Entries}
use Rattle.mapping.specs.Numbers.{StandsNoneIn}
use Rattle.checkpoint.specs.Counts.{checkpoint_counted}
use Rattle.checkpoint.specs.Regions.{map_pages}
use Rattle.checkpoint.specs.Current.{log_committed}
use Rattle.block_pool.specs.Pool.{PoolValue, ErasedOnce, IsInPool, IsNextTaken, erases_of, role_of}
use Rattle.block_pool.specs.declared.pool.Role.TheVariants.{Log}
use Rattle.log_blocks.specs.Logs.{block_begun, is_in, without_block}
use Rattle.merge_engine.specs.declared.parts.Parts.{Parts}
use Rattle.merge_engine.specs.Room.{FreesGroups}
use Rattle.merge_engine.specs.Steps.{CanBeginLog, HasLogBlock}

-- exactly the log blocks of the old list in which some entry stands are left, in their order
pub record AreHeldLogs (m : Entries) (old new : List ℕ) : Type 0 where
  pub holds : ℕ → Bool
  pub unheld : (b : ℕ) → is_in b old ≡ true → (holds b ≡ false) ↔ StandsNoneIn m b
  pub left : new ≡ filter holds old

-- the oldest is out of the list, and all others stay in their order
abbrev pub LosesOldest : List ℕ → List ℕ → Type 0
LosesOldest old new = (oldest : ℕ) → slice_get old 0 ≡ Some oldest → new ≡ without_block oldest old

-- no log block can be had without a merge
abbrev pub NeedsMerge : Parts → Type 0
NeedsMerge parts = HasLogBlock parts → ⊥

-- the log blocks that are left, and the pool, once there is room for one more log block. If that takes no merge, each
-- log block without an entry is out of the list, and no block was erased. Else only the oldest is out of the list
pub record MakesRoom (old : Parts) (left : List ℕ) (pool : PoolValue) : Type 0 where
  pub unheld : CanBeginLog old → AreHeldLogs old.map.entries old.log_blocks.used left
  pub erases : CanBeginLog old → (b : ℕ) → erases_of pool b ≡ erases_of old.pool b
  pub oldest : (CanBeginLog old → ⊥) → LosesOldest old.log_blocks.used left

-- the block has the role of a log block, and nothing else of the pool changed
pub record UsedAsLog (old new : PoolValue) (block : ℕ) : Type 0 where
  pub role : role_of new block ≡ Log
  pub others : (b : ℕ) → IsInPool old.geometry b → b ≢ block → role_of new b ≡ role_of old b
  pub erases : (b : ℕ) → erases_of new b ≡ erases_of old b

-- the block that the pool takes next is a log block, erased once more; each other block has its old role
pub record TakenAsLog (old new : PoolValue) (block : ℕ) : Type 0 where
  pub next : IsNextTaken old block
  pub erased : ErasedOnce old new block
  pub role : role_of new block ≡ Log
  pub others : (b : ℕ) → IsInPool old.geometry b → b ≢ block → role_of new b ≡ role_of old b

-- the block that was taken is the last log block and the open one, with all its pages left
pub record TakesLogBlock (old new : Parts) (block : ℕ) : Type 0 where
  pub logs : new.log_blocks ≡ block_begun block old.log_blocks
  pub taken : TakenAsLog old.pool new.pool block

-- a log block was begun. Once there was room, the block that the pool takes next is the last log block and the open
-- one, with this many pages left. All buffered records are on the flash
pub record BeginsLog (old new : Parts) (pages : ℕ) : Type 0 where
  pub left : List ℕ
  pub pool : PoolValue
  pub room : MakesRoom old left pool
  pub block : ℕ
  pub taken : TakenAsLog pool new.pool block
  pub logs : new.log_blocks ≡ record old.log_blocks { used = left ++ block ∷ []; open_block = Some block; room = pages }
  pub nothing_waits : new.log.buffered ≡ []
  pub log : CanBeginLog old → new.log ≡ log_committed old.log

-- the oldest log block was freed, and no group moved or gave way without need
abbrev pub FreesOldest : Parts → Parts → Type 0
FreesOldest old new = (oldest : ℕ) → slice_get old.log_blocks.used 0 ≡ Some oldest
    → FreesGroups old.geometry oldest old.map.entries new.map.entries

-- the counts after an erase block was taken: one erase. If something was buffered, one program was made before it, or a
-- checkpoint if the log had no page left
pub record CostsOfTaking (old : Parts) (before now : Counts) : Type 0 where
  pub counts : old.log.buffered ≡ [] → now ≡ erase_counted before
  pub one_more : old.log.buffered ≢ [] → old.log.next < log_pages old.geometry → now ≡ erase_counted (program_counted before)
  pub checkpoint : old.log.buffered ≢ [] → log_pages old.geometry ≤ old.log.next
      → now ≡ erase_counted (checkpoint_counted old.log.geometry (map_pages old.log.geometry old.map.records) before)

-- the counts after the first page of that block was programmed
abbrev pub CostsOfBeginning : Parts → Counts → Counts → Type 0
CostsOfBeginning old before now = (taken : Counts) × CostsOfTaking old before taken × (now ≡ program_counted taken)
