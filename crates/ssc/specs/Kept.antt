-- The facts that the commands have in common, and the state after writes and after the opening.
use Rattle.std.specs.Prelude.{◌≡◌, ◌≢◌, ◌⊎◌, ◌≤◌, ◌+◌, ◌++◌, ◌∷◌, [], ℕ, length, max, false, None, Result, OnOk, IsErrOf}
use Rattle.std.specs.FinMap.{get}
use Rattle.ft_base.specs.declared.geometry.Geometry.{Geometry}
use Rattle.ft_base.specs.Contents.{Contents}
use Rattle.ft_base.specs.Layout.{log_pages, page_records}
use Rattle.ft_media.specs.State.{State}
use Rattle.ft_media.specs.Drives.{DrivesFlash}
use Rattle.ft_media.specs.Passes.{ProgramsPages}
use Rattle.ft_media.specs.Media.{program_counted}
use Rattle.cache_model.specs.Cache.{Inserted, Written, undo}
use Rattle.cache_model.specs.CacheList.{CacheList}
use Rattle.checkpoint.specs.Commits.{AddsCheckpoint}
use Rattle.checkpoint.specs.Current.{log_checkpointed, log_committed}
use Rattle.mapping.specs.Room.{GrewForPages, GrewForGroups, HasNoMoreRoom, KeepsBuckets}
use Rattle.merge_engine.specs.declared.parts.Parts.{Parts}
use Rattle.merge_engine.specs.Loaded.{AreFoundLogs}
use Rattle.merge_engine.specs.Steps.{HasLogBlock}
use Rattle.ssc.specs.declared.cache.Ssc.{Ssc}
use Rattle.ssc.specs.declared.error.SscError.{SscError}
use Rattle.ssc.specs.declared.error.SscError.TheVariants.{Full, OutOfMemory}
use Rattle.ssc.specs.Errors.{ssc_failed, ssc_lost, stops}
use Rattle.ssc.specs.CacheState.{Holds, HoldsBeside, IsAsBefore, geometry_of, log_room, open_room, pending}
use Rattle.ssc.specs.Commands.{ImagesOf}
use Rattle.ssc.specs.Steps.{TakesLogPage}

-- ---- every command that drives the flash

-- the geometry stays, and no memory is taken: the map has no more room, and the same number of buckets
pub record TakesNoMemory (old new : Parts) : Type 0 where
  pub geometry : new.geometry ≡ old.geometry
  pub room : HasNoMoreRoom old.map new.map
  pub buckets : KeepsBuckets old.map new.map

-- the number of the map's buckets is unchanged, or they doubled as the room of a write needs
pub record GrewForWrite (old new : Parts) : Type 0 where
  pub pages : (new.map.buckets ≡ old.map.buckets) ⊎ GrewForPages old.map new.map (max old.map.spare_pages 1)
  pub groups : (new.map.group_buckets ≡ old.map.group_buckets) ⊎ GrewForGroups old.map new.map (max old.map.spare_groups old.geometry.p)

-- a write. The geometry stays, and the map grows as its room needs. The cache is given up exactly when the flash failed
-- or power was lost, and only the flash is driven. After `Ok`, one page of the open log block is used
pub record RunsCommand {T : Type 0} (old new : Ssc) (before after : State) (result : Result T SscError) : Type 0 where
  pub geometry : geometry_of new ≡ geometry_of old
  pub buckets : GrewForWrite old.parts new.parts
  pub stopped : new.stopped ≡ stops result
  pub drives : DrivesFlash before after (ssc_failed result) (ssc_lost result)
  pub log_page : OnOk result (TakesLogPage old.parts new.parts)

-- the same for a command that takes no memory. It never answers `Full` or `OutOfMemory`. The buckets of the map and the
-- log blocks stay, and the memory that a write has ready stays ready
pub record RunsInPlace {T : Type 0} (old new : Ssc) (before after : State) (result : Result T SscError) : Type 0 where
  pub geometry : geometry_of new ≡ geometry_of old
  pub full : (n l : ℕ) → IsErrOf result (Full n l) → ⊥
  pub memory : IsErrOf result OutOfMemory → ⊥
  pub buckets : KeepsBuckets old.parts.map new.parts.map
  pub stopped : new.stopped ≡ stops result
  pub ready : new.ready ≡ old.ready
  pub log_blocks : new.parts.log_blocks ≡ old.parts.log_blocks
  pub drives : DrivesFlash before after (ssc_failed result) (ssc_lost result)

-- ---- the writes

-- on `Full` or `OutOfMemory` a write has changed only the order of the map's records and its buckets, which may have
-- doubled
pub record RefusesWrite {T : Type 0} (old new : Ssc) (before after : State) (result : Result T SscError) : Type 0 where
  pub full_keeps : (n l : ℕ) → IsErrOf result (Full n l) → (new ≡ old) × (after ≡ before)
  pub memory : IsErrOf result OutOfMemory → (old.ready ≡ false) × IsAsBefore old new × (after ≡ before)
  pub memory_holds : IsErrOf result OutOfMemory → (contents : Contents) (s : CacheList) (h : Holds old contents s)
      → HoldsBeside new contents s h.waiting

-- nothing gives way if the open log block has a page left. Nothing gives way either if a log block is available without
-- a merge, whatever the answer is
pub record KeepsInRoom {T : Type 0} (old new : Ssc) (before after : State) (step : CacheList → CacheList)
    (result : Result T SscError) : Type 0 where
  pub inside : OnOk result (1 ≤ open_room old → (s : CacheList) → Holds old before.contents s → Holds new after.contents (step s))
  pub kept : OnOk result (HasLogBlock old.parts → (s : CacheList) → Holds old before.contents s → Holds new after.contents (step s))
  pub kept_images : HasLogBlock old.parts → (s : CacheList) (h : Holds old before.contents s)
      → ImagesOf old after.contents (undo h.waiting s) s (step s)

-- after `Ok` a dirty write has spent at least two device writes; it programmed exactly two pages if the open log block
-- and the log had room
pub record CostsDirty {T : Type 0} (old : Ssc) (before after : State) (result : Result T SscError) : Type 0 where
  pub two_programs : OnOk result (1 ≤ open_room old → 1 ≤ log_room old → after.counts ≡ program_counted (program_counted before.counts))
  pub programs : OnOk result (ProgramsPages 2 before after)

-- after `Ok` a later write has spent at least one device write. It programmed one page, and its record waits, if the open log
-- block and the buffer had room
pub record CostsLater {T : Type 0} (old new : Ssc) (lba : ℕ) (before after : State) (result : Result T SscError) : Type 0 where
  pub one_program : OnOk result (1 ≤ open_room old → length (pending old) + 2 ≤ page_records (geometry_of old)
      → (after.counts ≡ program_counted before.counts) × (pending new ≡ pending old ++ Written lba None ∷ []))
  pub programs : OnOk result (ProgramsPages 1 before after)

-- after `Ok` a clean write has spent at least one device write. It programmed one page if the address was absent, and
-- the open log block and the buffer had room
pub record CostsClean {T : Type 0} (old new : Ssc) (lba : ℕ) (before after : State) (result : Result T SscError) : Type 0 where
  pub one_program : OnOk result ((s : CacheList) → Holds old before.contents s → get s lba ≡ None → 1 ≤ open_room old
      → length (pending old) + 2 ≤ page_records (geometry_of old)
      → (after.counts ≡ program_counted before.counts) × (pending new ≡ pending old ++ Inserted lba ∷ []))
  pub programs : OnOk result (ProgramsPages 1 before after)

-- ---- commits and checkpoints

-- after `Ok` a checkpoint was made in the other region, with the next era: it erased that region and its log, and
-- programmed its pages
pub record CostsCheckpoint {T : Type 0} (old new : Ssc) (before after : State) (result : Result T SscError) : Type 0 where
  pub log : OnOk result (new.parts.log ≡ log_checkpointed old.parts.log)
  pub adds : OnOk result (AddsCheckpoint old.parts.log old.parts.map.records before after)
  pub programs : OnOk result (ProgramsPages 1 before after)

-- after `Ok` all changes that were buffered are on one log page if the log had a page left, else in such a checkpoint
pub record CostsCommit {T : Type 0} (old new : Ssc) (before after : State) (result : Result T SscError) : Type 0 where
  pub log : OnOk result (new.parts.log ≡ log_committed old.parts.log)
  pub one_program : OnOk result (pending old ≢ [] → 1 ≤ log_room old → after.counts ≡ program_counted before.counts)
  pub checkpoint : OnOk result (pending old ≢ [] → log_room old ≡ 0 → AddsCheckpoint old.parts.log old.parts.map.records before after)
  pub programs : OnOk result (pending old ≢ [] → ProgramsPages 1 before after)

-- ---- the opening

-- a cache that was just opened. Nothing is buffered, and its log is empty. Its log blocks are in the order of their
-- numbers, with none open, and it was not given up
pub record IsJustOpened (g : Geometry) (c : Ssc) : Type 0 where
  pub nothing_waits : pending c ≡ []
  pub log : c.parts.log.next ≡ 0
  pub empty_log : log_room c ≡ log_pages g
  pub closed : open_room c ≡ 0
  pub log_blocks : AreFoundLogs c.parts.log_blocks
  pub up : c.stopped ≡ false
