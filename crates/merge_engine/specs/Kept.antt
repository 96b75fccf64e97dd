-- The preconditions of the steps, and the facts that each of them keeps.
use Rattle.std.specs.Prelude.{◌≡◌, ◌≢◌, ◌≤◌, ◌<◌, ◌+◌, ℕ, [], length, Result, OnOk}
use Rattle.ft_base.specs.declared.geometry.Geometry.{Geometry}
use Rattle.ft_base.specs.declared.block.Place.{Place}
use Rattle.ft_base.specs.declared.block.Page.{Page}
use Rattle.ft_base.specs.declared.record.Record.{Record}
use Rattle.ft_base.specs.Contents.{Contents}
use Rattle.ft_base.specs.Layout.{log_pages, page_records}
use Rattle.ft_media.specs.declared.media.MediaError.{MediaError}
use Rattle.ft_media.specs.declared.rig.Counts.{Counts}
use Rattle.ft_media.specs.Media.{program_counted}
use Rattle.cache_model.specs.CacheList.{CacheList}
use Rattle.cache_model.specs.Records.{Entries, after}
use Rattle.mapping.specs.MapValue.{MapValue, pages_taken, groups_taken}
use Rattle.silent_evict.specs.Candidates.{IsCandidate}
use Rattle.block_pool.specs.Pool.{IsNextTaken}
use Rattle.log_blocks.specs.Logs.{released}
use Rattle.merge_engine.specs.declared.parts.Parts.{Parts}
use Rattle.merge_engine.specs.Agreement.{PartsAgree, Lists}
use Rattle.merge_engine.specs.Merges.{FlashStandsForEither, HasBlockOrRoom, ReachesTo, move_counted, moved}
use Rattle.merge_engine.specs.Room.{FlashStandsForGiven, GaveWay, HasNoCandidate, LacksRoom}
use Rattle.merge_engine.specs.Steps.{GoesOn, HasFillers, IsMerged, KeepsList}
use Rattle.merge_engine.specs.Switch.{CanSwitch, CannotSwitch, IsSwitched}

-- ---- the preconditions of a step

-- the map has memory for p more pages and n more groups, and the buffer has room for one more record
pub record CanNote (parts : Parts) (p n : ℕ) : Type 0 where
  pub pages : p ≤ parts.map.spare_pages
  pub groups : n ≤ parts.map.spare_groups
  pub room : length parts.log.buffered < page_records parts.log.geometry

-- the parts agree with the flash, the map has memory for n more groups, and the buffer has room for one more record
pub record CanGoOn (parts : Parts) (contents : Contents) (n : ℕ) : Type 0 where
  pub agree : PartsAgree parts contents
  pub groups : n ≤ parts.map.spare_groups
  pub room : length parts.log.buffered < page_records parts.log.geometry

-- ---- the parts that a step changes

-- only the map, the log and the pool change
abbrev pub OnlyMapLogPoolChange : Parts → Parts → Type 0
OnlyMapLogPoolChange old new = new ≡ record old { map = new.map; log = new.log; pool = new.pool }

-- only the pool and the log blocks change
abbrev pub OnlyPoolLogBlocksChange : Parts → Parts → Type 0
OnlyPoolLogBlocksChange old new = new ≡ record old { pool = new.pool; log_blocks = new.log_blocks }

-- ---- how a step keeps the map's memory

-- the map with this change made in it, and without the memory that it took
pub record IsNoted (g : Geometry) (change : Record) (old new : MapValue) : Type 0 where
  pub entries : new.entries ≡ after g change old.entries
  pub pages : new.spare_pages + pages_taken change ≡ old.spare_pages
  pub groups : new.spare_groups + groups_taken change ≡ old.spare_groups
  pub buckets : new.buckets ≡ old.buckets
  pub group_buckets : new.group_buckets ≡ old.group_buckets

-- the map has memory for equally many pages, for no more groups, and for at most n fewer; its buckets stay
pub record KeepsRoom (old new : MapValue) (n : ℕ) : Type 0 where
  pub pages : new.spare_pages ≡ old.spare_pages
  pub groups : old.spare_groups ≤ new.spare_groups + n
  pub no_more : new.spare_groups ≤ old.spare_groups
  pub buckets : new.buckets ≡ old.buckets
  pub group_buckets : new.group_buckets ≡ old.group_buckets

-- ---- how a step keeps the list

-- on this flash the parts still agree, and the list is the same
pub record StaysOn (old new : Parts) (contents : Contents) : Type 0 where
  pub agree : PartsAgree old contents → PartsAgree new contents
  pub lists : (list durable : CacheList) → Lists old contents.flash.page list durable → Lists new contents.flash.page list durable

-- after `Ok` nothing is buffered any longer, and the list is unchanged. Whatever the call answers, the flash stands for
-- the list, or for the same list as before
pub record CommitsList {T : Type 0} (old new : Parts) (before now : Contents) (result : Result T MediaError) : Type 0 where
  pub agree : OnOk result (PartsAgree new now)
  pub nothing_waits : OnOk result (new.log.buffered ≡ [])
  pub lists : OnOk result ((list durable : CacheList) → Lists old before.flash.page list durable → Lists new now.flash.page list list)
  pub stands : (list durable : CacheList) → Lists old before.flash.page list durable
      → FlashStandsForEither old.geometry now.flash.page durable list

-- the same for a merge of the group, in which a group may have given way, either another one or the group itself
pub record MergesList {T : Type 0} (old new : Parts) (group : ℕ) (before now : Contents) (result : Result T MediaError) : Type 0 where
  pub agree : OnOk result (PartsAgree new now)
  pub nothing_waits : OnOk result (new.log.buffered ≡ [])
  pub lists : OnOk result ((list durable : CacheList) → Lists old before.flash.page list durable
      → (v : CacheList) × GaveWay old.geometry old.map.entries group list v × Lists new now.flash.page v v)
  pub stands : (list durable : CacheList) → Lists old before.flash.page list durable
      → FlashStandsForGiven old.geometry now.flash.page durable list

-- after `Ok` one more record may be buffered, and the list is unchanged or gave room. Whatever the call answers, the
-- flash stands for it, or for the same list as before
pub record KeepsOrGives {T : Type 0} (old new : Parts) (before now : Contents) (result : Result T MediaError) : Type 0 where
  pub agree : OnOk result (PartsAgree new now)
  pub room : OnOk result (length new.log.buffered < page_records new.log.geometry)
  pub lists : OnOk result ((list durable : CacheList) → Lists old before.flash.page list durable
      → GoesOn old.log new now.flash.page list durable)
  pub stands : (list durable : CacheList) → Lists old before.flash.page list durable
      → FlashStandsForGiven old.geometry now.flash.page durable list

-- no group gives way: the map stays, and so does the list
pub record NothingGivesWay {T : Type 0} (old new : Parts) (before now : Contents) (result : Result T MediaError) : Type 0 where
  pub map_stays : new.map ≡ old.map
  pub list_stands : (list durable : CacheList) → Lists old before.flash.page list durable
      → FlashStandsForEither old.geometry now.flash.page durable list
  pub list_stays : OnOk result ((list durable : CacheList) → Lists old before.flash.page list durable
      → KeepsList old.log new now.flash.page list durable)

-- ---- the state after a merge, and its cost

-- all held blocks of the group stand in its data block, with fillers between them
pub record IsGathered (g : Geometry) (m : Entries) (group : ℕ) (page : Place → Page) : Type 0 where
  pub merged : IsMerged g m group
  pub filled : HasFillers g m group page

-- the cost of a copy, if the log has a page left for each commit. It makes one erase, a program for each page up to the
-- last held one, and one for the log page. If something is buffered, one more program is made, for a log page of its
-- own
pub record CostsOfCopy (old : Parts) (group : ℕ) (before now : Counts) : Type 0 where
  pub counts : old.log.buffered ≡ [] → old.log.next < log_pages old.geometry
      → (pages : ℕ) → ReachesTo old.geometry old.map.entries group pages → now ≡ move_counted pages before
  pub one_more : old.log.buffered ≢ [] → old.log.next + 1 < log_pages old.geometry
      → (pages : ℕ) → ReachesTo old.geometry old.map.entries group pages → now ≡ move_counted pages (program_counted before)

-- the block that the pool takes next is the group's data block. All held blocks of the group stand there, with their
-- old marks
abbrev pub TakesDataBlock : Parts → Parts → ℕ → Type 0
TakesDataBlock old new group = (block : ℕ) × IsNextTaken old.pool block × (new.map.entries ≡ moved old.geometry old.map.entries group block)

-- a log block that can become the data block does, with one program and no erase if the log has a page left. If none
-- can, the group is copied into a block that is taken
pub record CostsOfMove (old new : Parts) (group : ℕ) (before now : Counts) : Type 0 where
  pub switched : (block : ℕ) → CanSwitch old group block → IsSwitched old new group block
  pub one_program : (block : ℕ) → CanSwitch old group block → old.log.next < log_pages old.geometry → now ≡ program_counted before
  pub taken : CannotSwitch old group → TakesDataBlock old new group
  pub copied : CannotSwitch old group → CostsOfCopy old group before now

-- another group gives way, and the log has a page left for both commits: one program for its record, and the programs
-- of the move
pub record CostsOfWay (old new : Parts) (group : ℕ) (before now : Counts) : Type 0 where
  pub switched : (block : ℕ) → CanSwitch old group block → new.log_blocks ≡ released block old.log_blocks
  pub two_programs : (block : ℕ) → CanSwitch old group block → old.log.next + 1 < log_pages old.geometry
      → now ≡ program_counted (program_counted before)
  pub copied : CannotSwitch old group → old.log.next + 1 < log_pages old.geometry
      → (pages : ℕ) → ReachesTo old.geometry old.map.entries group pages → now ≡ move_counted pages (program_counted before)

-- a merge costs the move of the group if no group gives way. If another group does, its record is added. If the group
-- itself does, its record is the only cost
pub record CostsOfMerge (old new : Parts) (group : ℕ) (before now : Counts) : Type 0 where
  pub moved : HasBlockOrRoom old.geometry old.map.entries group → CostsOfMove old new group before now
  pub way : LacksRoom old.geometry old.map.entries group → (gone : ℕ) → IsCandidate old.geometry old.map.entries gone
      → CostsOfWay old new group before now
  pub dropped : LacksRoom old.geometry old.map.entries group → HasNoCandidate old.geometry old.map.entries
      → old.log.next < log_pages old.geometry → now ≡ program_counted before
