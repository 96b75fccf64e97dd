-- The parts and the flash after a step.
use Rattle.std.specs.Prelude.{◌≡◌, ◌⊎◌, ◌≤◌, ◌<◌, ◌/◌, ◌%◌, ℕ, true, [], length, Some, None}
use Rattle.std.specs.FinMap.{get}
use Rattle.ft_base.specs.declared.block.Block.{Block}
use Rattle.ft_base.specs.declared.block.Place.{Place}
use Rattle.ft_base.specs.declared.block.Page.{Page}
use Rattle.ft_base.specs.declared.block.Page.TheVariants.{Whole}
use Rattle.ft_base.specs.declared.geometry.Geometry.{Geometry}
use Rattle.ft_base.specs.Contents.{Flash, zero_block}
use Rattle.ft_media.specs.Media.{IsNextPage}
use Rattle.cache_model.specs.declared.format.SpareKind.TheVariants.{Filler}
use Rattle.cache_model.specs.Spelling.{data_spare, spelled_spare, spare_fields}
use Rattle.cache_model.specs.Loading.{is_whole}
use Rattle.cache_model.specs.declared.entry.Entry.{Entry}
use Rattle.cache_model.specs.Records.{Entries}
use Rattle.cache_model.specs.Cache.{with_group}
use Rattle.cache_model.specs.CacheList.{CacheList}
use Rattle.cache_model.specs.Entries.{groups_with}
use Rattle.mapping.specs.Numbers.{StandsNoneIn}
use Rattle.op_log.specs.Log.{LogValue}
use Rattle.log_blocks.specs.Logs.{IsInUse}
use Rattle.merge_engine.specs.declared.parts.Parts.{Parts}
use Rattle.block_pool.specs.Pool.{PoolValue, IsFree, IsInPool, role_of}
use Rattle.block_pool.specs.declared.pool.Role.TheVariants.{Free}
use Rattle.merge_engine.specs.Agreement.{Lists, IsGroupBlock}
use Rattle.merge_engine.specs.Room.{GivesRoom}

-- the buffered records still are buffered, and the list stays; or all records are on the flash, and the list may have
-- given room
abbrev pub GoesOn : LogValue → Parts → (Place → Page) → CacheList → CacheList → Type 0
GoesOn log parts page list durable =
    ((parts.log ≡ log) × Lists parts page list durable)
    ⊎ ((parts.log.buffered ≡ []) × ((v : CacheList) × GivesRoom parts.geometry list v × Lists parts page v v))

-- the buffered records still are buffered, or all are on the flash; and the list stays
abbrev pub KeepsList : LogValue → Parts → (Place → Page) → CacheList → CacheList → Type 0
KeepsList log parts page list durable =
    ((parts.log ≡ log) × Lists parts page list durable)
    ⊎ ((parts.log.buffered ≡ []) × Lists parts page list list)

-- a page of a log block in use has the block of the address, and no entry stands there yet
pub record IsNewPage (parts : Parts) (page : Place → Page) (at : Place) (lba : ℕ) (block : Block) : Type 0 where
  pub whole : page at ≡ Whole block (data_spare lba)
  pub in_use : IsInUse parts.log_blocks at.block
  pub in_block : at.page < parts.geometry.p
  pub unused : (a : ℕ) (e : Entry) → get parts.map.entries a ≡ Some e → e.place ≡ at → ⊥

-- if the group's old data block no longer is its data block, it is free; every other role stays
pub record FollowsGroup (g : Geometry) (group : ℕ) (m m' : Entries) (old new : PoolValue) : Type 0 where
  pub geometry : new.geometry ≡ old.geometry
  pub freed : (b : ℕ) → IsInPool g b → IsGroupBlock g m group b → (IsGroupBlock g m' group b → ⊥) → role_of new b ≡ Free
  pub kept : (b : ℕ) → IsInPool g b → (IsGroupBlock g m group b → IsGroupBlock g m' group b) → role_of new b ≡ role_of old b

-- a whole page, and the same block and spare bytes at the other place
pub record IsCopyOf (page : Place → Page) (from to : Place) : Type 0 where
  pub whole : is_whole (page from) ≡ true
  pub copy : page to ≡ page from

-- each held address of the group has a copy at its own page of the erase block
abbrev pub IsCopied : Geometry → Entries → ℕ → ℕ → (Place → Page) → Type 0
IsCopied g m group block page = (a : ℕ) (e : Entry) → get m a ≡ Some e → a / g.p ≡ group
    → IsCopyOf page e.place (record { block = block; page = a % g.p })

-- a filler page: the zero block, with the spare bytes of a filler
abbrev pub filler_page : Page
filler_page = Whole zero_block (record { 0 = spelled_spare (spare_fields Filler 0 0) })

-- a page of the erase block before the group's last held one is a filler, if no held address has it
abbrev pub IsFilledUp : Geometry → Entries → ℕ → ℕ → (Place → Page) → Type 0
IsFilledUp g m group block page = (a b : ℕ) (e : Entry) → a / g.p ≡ group → get m a ≡ None → b / g.p ≡ group → get m b ≡ Some e → a < b
    → page (record { block = block; page = a % g.p }) ≡ filler_page

-- a page of the group's data block before its last held one is a filler, if no held address has it
abbrev pub HasFillers : Geometry → Entries → ℕ → (Place → Page) → Type 0
HasFillers g m group page = (a b : ℕ) (e : Entry) → a / g.p ≡ group → get m a ≡ None → b / g.p ≡ group → get m b ≡ Some e → a < b
    → page (record { block = e.place.block; page = a % g.p }) ≡ filler_page

-- each held address of the group stands in its data block
abbrev pub IsMerged : Geometry → Entries → ℕ → Type 0
IsMerged g m group = (a : ℕ) (e : Entry) → get m a ≡ Some e → a / g.p ≡ group → e.block_mapped ≡ true

-- each page-mapped entry was there before
abbrev pub PageMappedStay : Entries → Entries → Type 0
PageMappedStay old new = (a : ℕ) (e : Entry) → get new a ≡ Some e → (get old a ≡ Some e) ⊎ (e.block_mapped ≡ true)

-- how many groups have a dirty entry, with the group of an address counted too
abbrev pub dirty_groups_with : Geometry → Entries → ℕ → ℕ
dirty_groups_with g m a = length (with_group (a / g.p) (groups_with g (λ e. e.dirty) m))

-- there are few enough such groups that the address may become dirty
abbrev pub HasRoomFor : Geometry → Entries → ℕ → Type 0
HasRoomFor g m a = dirty_groups_with g m a ≤ g.c

-- the page is the next one of a free erase block that is ready
pub record IsNextFreePage (parts : Parts) (flash : Flash) (at : Place) : Type 0 where
  pub free : IsFree parts.pool at.block
  pub ready : IsNextPage at flash
  pub in_block : at.page < parts.geometry.p

-- no entry stands at the place
abbrev pub IsUnowned : Entries → Place → Type 0
IsUnowned m at = (a : ℕ) (e : Entry) → get m a ≡ Some e → e.place ≡ at → ⊥

-- no entry stands in one of the log blocks in use
abbrev pub HasUnheldLog : Parts → Type 0
HasUnheldLog parts = (b : ℕ) × IsInUse parts.log_blocks b × StandsNoneIn parts.map.entries b

-- a log block can be begun without a merge: fewer than L are in use, or one of them has no entry
abbrev pub CanBeginLog : Parts → Type 0
CanBeginLog parts = (length parts.log_blocks.used < parts.geometry.l) ⊎ HasUnheldLog parts

-- a log block is available without a merge: a page is left in the open one, or another can be begun
abbrev pub HasLogBlock : Parts → Type 0
HasLogBlock parts = (1 ≤ parts.log_blocks.room) ⊎ CanBeginLog parts
