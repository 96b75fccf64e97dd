-- When the parts of a cache and its flash agree.
use Rattle.std.specs.Prelude.{◌≡◌, ◌↔◌, ◌≤◌, ◌/◌, ℕ, true, false, Some}
use Rattle.std.specs.FinMap.{get}
use Rattle.std.specs.Option.{option_and_then}
use Rattle.ft_base.specs.declared.geometry.Geometry.{Geometry}
use Rattle.ft_base.specs.declared.block.Place.{Place}
use Rattle.ft_base.specs.declared.block.Page.{Page}
use Rattle.ft_base.specs.Contents.{Contents, Flash}
use Rattle.ft_media.specs.Media.{IsNextPage}
use Rattle.cache_model.specs.declared.entry.Entry.{Entry}
use Rattle.cache_model.specs.Records.{Entries}
use Rattle.cache_model.specs.CacheList.{CacheList}
use Rattle.cache_model.specs.Stands.{FlashStandsFor, held_at}
use Rattle.op_log.specs.Log.{FitsOn}
use Rattle.checkpoint.specs.Current.{IsCurrent, AreWhole, IsOpenLog}
use Rattle.block_pool.specs.Pool.{IsInPool, role_of}
use Rattle.block_pool.specs.declared.pool.Role.TheVariants.{Data, Log}
use Rattle.log_blocks.specs.Logs.{LogBlocksValue, IsInUse, append_place}
use Rattle.log_blocks.specs.Logs as list
use Rattle.merge_engine.specs.declared.parts.Parts.{Parts}

-- all parts are of one geometry
pub record AreOfOne (parts : Parts) : Type 0 where
  pub map : parts.map.geometry ≡ parts.geometry
  pub log : parts.log.geometry ≡ parts.geometry
  pub pool : parts.pool.geometry ≡ parts.geometry
  pub victims : parts.victims ≡ parts.geometry
  pub log_blocks : parts.log_blocks.geometry ≡ parts.geometry
  pub checkpoints : parts.checkpoints ≡ parts.geometry

-- some entry stands in the erase block as in a data block
abbrev pub IsDataBlockOf : Entries → ℕ → Type 0
IsDataBlockOf m block = (a : ℕ) × (e : Entry) × (get m a ≡ Some e) × (e.block_mapped ≡ true) × (e.place.block ≡ block)

-- some entry of the group stands in the erase block as in its data block
abbrev pub IsGroupBlock : Geometry → Entries → ℕ → ℕ → Type 0
IsGroupBlock g m group block = (a : ℕ) × (e : Entry) × (get m a ≡ Some e) × (a / g.p ≡ group) × (e.block_mapped ≡ true)
    × (e.place.block ≡ block)

-- the roles of the pool are the uses that the map and the log blocks make of it
pub record RolesAgree (parts : Parts) : Type 0 where
  pub data_blocks : (b : ℕ) → IsInPool parts.geometry b → (role_of parts.pool b ≡ Data) ↔ IsDataBlockOf parts.map.entries b
  pub log_blocks : (b : ℕ) → IsInPool parts.geometry b → (role_of parts.pool b ≡ Log) ↔ IsInUse parts.log_blocks b
  pub in_pool : (b : ℕ) → IsInUse parts.log_blocks b → IsInPool parts.geometry b
  pub page_mapped : (a : ℕ) (e : Entry) → get parts.map.entries a ≡ Some e → e.block_mapped ≡ false → IsInUse parts.log_blocks e.place.block

-- if the open log block has a page left, that page is the next one of an erase block that is ready
abbrev pub IsOpenBlock : LogBlocksValue → Flash → Type 0
IsOpenBlock logs flash = 1 ≤ logs.room → IsNextPage (append_place logs) flash

-- the parts agree with the flash, except for the pages of the log
pub record ArePartsSound (parts : Parts) (contents : Contents) : Type 0 where
  pub of_one : AreOfOne parts
  pub shape : FitsOn parts.geometry contents.shape
  pub current : IsCurrent contents.flash.page parts.log parts.map.entries
  pub whole : AreWhole contents.flash.page parts.map.entries
  pub roles : RolesAgree parts
  pub log_blocks : list.AreSoundLogs parts.log_blocks
  pub open_block : IsOpenBlock parts.log_blocks contents.flash

-- the parts agree with the flash
pub record PartsAgree (parts : Parts) (contents : Contents) : Type 0 where
  pub sound : ArePartsSound parts contents
  pub open_log : IsOpenLog contents.flash parts.log

-- ---- the lists

-- the map is this list on the flash
abbrev pub IsListOn : (Place → Page) → Entries → CacheList → Type 0
IsListOn page m s = (a : ℕ) → get s a ≡ option_and_then (held_at page) (get m a)

-- the map is this list on the flash; and the flash, loaded now, stands for the list `durable`
pub record Lists (parts : Parts) (page : Place → Page) (list durable : CacheList) : Type 0 where
  pub held : IsListOn page parts.map.entries list
  pub stands : FlashStandsFor parts.geometry page durable
