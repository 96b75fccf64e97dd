-- A cache and its flash: the list that they hold, and its changes that are only buffered.
use Rattle.std.specs.Prelude.{◌≡◌, ◌⊎◌, ◌≤◌, ◌-◌, ℕ, Bool, true, false, max, IsTrue, List, [], ◌∷◌, None, length, map, count_by}
use Rattle.std.specs.List.{list_all}
use Rattle.ft_base.specs.declared.geometry.Geometry.{Geometry}
use Rattle.ft_base.specs.declared.record.Record.{Record}
use Rattle.ft_base.specs.declared.record.Record.TheVariants.{SetPage, Remove, Clean, SetGroup, RemoveGroup}
use Rattle.ft_base.specs.Contents.{Contents}
use Rattle.ft_base.specs.Layout.{log_pages}
use Rattle.cache_model.specs.Records.{Entries}
use Rattle.cache_model.specs.Cache.{Buffered, Inserted, Cleaned, Written, MayWait, is_write, undo}
use Rattle.cache_model.specs.CacheList.{CacheList}
use Rattle.mapping.specs.Room.{GrewForPages, GrewForGroups, HasFewBuckets}
use Rattle.merge_engine.specs.declared.parts.Parts.{Parts}
use Rattle.merge_engine.specs.Agreement.{PartsAgree, Lists}
use Rattle.ssc.specs.declared.cache.Ssc.{Ssc}

abbrev pub geometry_of : Ssc → Geometry
geometry_of c = c.parts.geometry

abbrev pub entries_of : Ssc → Entries
entries_of c = c.parts.map.entries

-- a record that may be buffered between two commands: a block that was written, dirty or clean, or an address that was made
-- clean
abbrev pub may_wait : Record → Bool
may_wait (SetPage lba place dirty) = true
may_wait (Remove lba) = false
may_wait (Clean lba) = true
may_wait (SetGroup group block present dirty) = false
may_wait (RemoveGroup group) = false

-- the meaning of such a record for the list; the record of a dirty block doesn't say over what the block was written
abbrev pub waiting_as : Record → Buffered
waiting_as (SetPage lba place true) = Written lba None
waiting_as (SetPage lba place false) = Inserted lba
waiting_as (Remove lba) = Cleaned lba
waiting_as (Clean lba) = Cleaned lba
waiting_as (SetGroup group block present dirty) = Cleaned group
waiting_as (RemoveGroup group) = Cleaned group

abbrev pub waiting : List Record → List Buffered
waiting [] = []
waiting (change ∷ changes) = waiting_as change ∷ waiting changes

-- the changes that are buffered, and not yet on the flash, by kind and address
abbrev pub pending : Ssc → List Buffered
pending c = waiting c.parts.log.buffered

-- the kind and the address alone
abbrev pub shaped : Buffered → Buffered
shaped (Inserted a) = Inserted a
shaped (Cleaned a) = Cleaned a
shaped (Written a old) = Written a None

-- the pages of the open log block that are left
abbrev pub open_room : Ssc → ℕ
open_room c = c.parts.log_blocks.room

-- the log pages that are left before a checkpoint
abbrev pub log_room : Ssc → ℕ
log_room c = log_pages (geometry_of c) - c.parts.log.next

-- ---- the cache over its flash

-- the map has the memory of a write: for one page, and for the groups of one log block
pub record HasMemory (parts : Parts) : Type 0 where
  pub pages : 1 ≤ parts.map.spare_pages
  pub groups : parts.geometry.p ≤ parts.map.spare_groups

-- between two commands: the cache has left the flash like this, and holds this list, in few buckets. The buffered changes wait
-- beside the list, each write with what it was written over; without them, the flash stands for the list. The places that are
-- kept are as many as the buffered writes
pub record Holds (c : Ssc) (contents : Contents) (s : CacheList) : Type 0 where
  pub agree : PartsAgree c.parts contents
  pub waiting : List Buffered
  pub shapes : map shaped waiting ≡ pending c
  pub kinds : IsTrue (list_all may_wait c.parts.log.buffered)
  pub lists : Lists c.parts contents.flash.page s (undo waiting s)
  pub waits : MayWait (geometry_of c) waiting s
  pub memory : c.ready ≡ true → HasMemory c.parts
  pub few : HasFewBuckets c.parts.map
  pub places : length c.before ≡ count_by is_write (pending c)

-- the cache holds the list, and these changes wait beside it
pub record HoldsBeside (c : Ssc) (contents : Contents) (s : CacheList) (beside : List Buffered) : Type 0 where
  pub holds : Holds c contents s
  pub same : holds.waiting ≡ beside

-- the cache holds some list, and was not given up
pub record IsUp (c : Ssc) (contents : Contents) : Type 0 where
  pub list : CacheList
  pub holds : Holds c contents list
  pub up : c.stopped ≡ false

-- the cache is unchanged, except for the order of its map's records and the map's buckets, which may have doubled as
-- the room of a write needs
pub record IsAsBefore (old new : Ssc) : Type 0 where
  pub parts : new ≡ record old { parts = record old.parts { map = new.parts.map } }
  pub map : new.parts.map ≡ record old.parts.map { records = new.parts.map.records; buckets = new.parts.map.buckets }
  pub buckets : (new.parts.map.buckets ≡ old.parts.map.buckets)
      ⊎ GrewForPages old.parts.map new.parts.map (max old.parts.map.spare_pages 1)

-- exactly the room of a write was taken: for one page, and for the groups of one log block; the buckets doubled as that
-- room needs
pub record TookRoom (old new : Parts) : Type 0 where
  pub pages : new.map.spare_pages ≡ max old.map.spare_pages 1
  pub groups : new.map.spare_groups ≡ max old.map.spare_groups old.geometry.p
  pub buckets : GrewForPages old.map new.map new.map.spare_pages
  pub group_buckets : GrewForGroups old.map new.map new.map.spare_groups
