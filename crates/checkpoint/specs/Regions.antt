-- The regions of a checkpoint and of its log, and the changes that are made to them.
use Rattle.std.specs.Prelude.{◌≡◌, ◌⊎◌, ◌≤◌, ◌<◌, ◌+◌, ◌*◌, ℕ, Some, List, length, take, drop}
use Rattle.ft_base.specs.declared.geometry.Geometry.{Geometry}
use Rattle.ft_base.specs.declared.block.Spare.{Spare}
use Rattle.ft_base.specs.declared.block.Place.{Place}
use Rattle.ft_base.specs.declared.block.Page.{Page}
use Rattle.ft_base.specs.declared.block.Page.TheVariants.{Blank, Torn}
use Rattle.ft_base.specs.declared.record.Record.{Record}
use Rattle.ft_base.specs.Contents.{Contents, Flash, set, set_page}
use Rattle.ft_base.specs.Layout.{checkpoint_at, checkpoint_pages, first_log, k, page_records, rounded_up}
use Rattle.ft_media.specs.Media.{IsNextPage}
use Rattle.cache_model.specs.declared.format.Header.{Header}
use Rattle.cache_model.specs.declared.format.Totals.{Totals}
use Rattle.cache_model.specs.declared.format.PageKind.TheVariants.{Map, Seal as SealPage}
use Rattle.cache_model.specs.declared.format.SpareKind.TheVariants.{Map as MapSpare, Seal as SealSpare}
use Rattle.cache_model.specs.Spelling.{spelled_spare, spare_fields}
use Rattle.cache_model.specs.Reading.{read_records}
use Rattle.cache_model.specs.Records.{Entries}
use Rattle.cache_model.specs.Loading.{Sealed, header_at, seal_at, said}
use Rattle.cache_model.specs.Laws.{IsMapOrLost}
use Rattle.cache_model.specs.Entries.{IsMap}
use Rattle.mapping.specs.Counts.{held_count, dirty_count}
use Rattle.mapping.specs.Checkpoint.{IsCheckpointOf}
use Rattle.mapping.specs.MapValue.{MapValue}
use Rattle.op_log.specs.Stamps.{own_stamp}
use Rattle.op_log.specs.Log.{FitsOn, HasSpare}
use Rattle.op_log.specs.Refusals.{seal_of}

-- one of `count` erase blocks from the first on
abbrev pub IsBlockWithin : ℕ → ℕ → ℕ → Type 0
IsBlockWithin first count b = (first ≤ b) × (b < first + count)

abbrev pub InCheckpoint : Geometry → ℕ → ℕ → Type 0
InCheckpoint g region b = IsBlockWithin (region * k g) (k g) b

abbrev pub InLog : Geometry → ℕ → ℕ → Type 0
InLog g region b = IsBlockWithin (first_log g + region * g.j) g.j b

-- each page is unchanged, or lies in these erase blocks and is blank or torn
abbrev pub AreLost : ℕ → ℕ → (Place → Page) → (Place → Page) → Type 0
AreLost first count old new = (at : Place) → (new at ≡ old at) ⊎ (IsBlockWithin first count at.block × ((new at ≡ Blank) ⊎ (new at ≡ Torn)))

-- each page of these erase blocks is blank, and the first page of each is the one to program next
pub record AreBlank (first count : ℕ) (flash : Flash) : Type 0 where
  pub page : (at : Place) → IsBlockWithin first count at.block → flash.page at ≡ Blank
  pub next : (b : ℕ) → IsBlockWithin first count b → flash.next b ≡ Some 0

-- the readiness of other erase blocks is unchanged
abbrev pub NextStays : ℕ → ℕ → Flash → Flash → Type 0
NextStays first count old new = (b : ℕ) → ¬ IsBlockWithin first count b → new.next b ≡ old.next b

-- each page outside of the checkpoint region and its log is unchanged
abbrev pub StaysBeside : Geometry → ℕ → (Place → Page) → (Place → Page) → Type 0
StaysBeside g region old new = (at : Place) → ¬ InCheckpoint g region at.block → ¬ InLog g region at.block → new at ≡ old at

-- the readiness of erase blocks outside of both is unchanged
abbrev pub ReadyBeside : Geometry → ℕ → Flash → Flash → Type 0
ReadyBeside g region old new = (b : ℕ) → ¬ InCheckpoint g region b → ¬ InLog g region b → new.next b ≡ old.next b

-- the checkpoint region and its log are erased, and nothing else changed
pub record IsPrepared (g : Geometry) (region : ℕ) (old new : Flash) : Type 0 where
  pub checkpoint : AreBlank (region * k g) (k g) new
  pub log : AreBlank (first_log g + region * g.j) g.j new
  pub beside : StaysBeside g region old.page new.page
  pub ready : ReadyBeside g region old new

-- no page of the checkpoint region is a seal: each is a map page, blank or torn
pub record IsBare (g : Geometry) (region : ℕ) (page : Place → Page) : Type 0 where
  pub pages : (i : ℕ) → i < checkpoint_pages g → IsMapOrLost (page (checkpoint_at g region i))

-- the flash after a checkpoint without a seal. Pages of its region may be lost, and each other page is unchanged. Or no
-- page of its region is a seal, and each page outside of the region and its log is unchanged
abbrev pub IsUnsealed : Geometry → ℕ → (Place → Page) → (Place → Page) → Type 0
IsUnsealed g region old new = AreLost (region * k g) (k g) old new ⊎ (IsBare g region new × StaysBeside g region old new)

-- the records of a map page
unfoldable pub part : Geometry → List Record → ℕ → List Record
part g records i = take (page_records g) (drop (page_records g * i) records)

-- the map pages of this many records
abbrev pub map_pages : Geometry → List Record → ℕ
map_pages g records = rounded_up (length records) (page_records g)

-- the header of a map page with these records, and of a seal over this many map pages with this many records
abbrev pub map_header : ℕ → ℕ → List Record → Header
map_header era sequence changes = record { format = 2; kind = Map; era = era; sequence = sequence; count = length changes }

abbrev pub seal_header : ℕ → ℕ → ℕ → Header
seal_header era pages count = record { format = 2; kind = SealPage; era = era; sequence = pages; count = count }

-- how many entries there are, and how many dirty ones
abbrev pub totals_of : Entries → Totals
totals_of m = record { entries = held_count m; dirty = dirty_count m }

-- the contents of a seal of this geometry with these totals
abbrev pub sealed_as : Geometry → Totals → Sealed
sealed_as g totals = record { seal = seal_of g; totals = Some totals }

-- the spare bytes of a map page of this era and sequence, and of a seal over this many map pages
abbrev pub map_spare : ℕ → ℕ → Spare
map_spare era sequence = record { 0 = spelled_spare (spare_fields MapSpare era sequence) }

abbrev pub seal_spare : ℕ → ℕ → Spare
seal_spare era pages = record { 0 = spelled_spare (spare_fields SealSpare era pages) }

-- a whole map page with these records, in format 2
pub record IsMapPage (g : Geometry) (era sequence : ℕ) (changes : List Record) (page : Page) : Type 0 where
  pub header : Header
  pub head : header_at Map (own_stamp era) sequence page ≡ Some header
  pub count : header.count ≡ length changes
  pub records : said (read_records g.p header) page ≡ Some changes
  pub spare : HasSpare (map_spare era sequence) page

-- a whole page that seals this many map pages with this many records, and has these totals
pub record IsSealPage (g : Geometry) (totals : Totals) (era pages count : ℕ) (page : Page) : Type 0 where
  pub seal : seal_at (own_stamp era) pages count page ≡ Some (sealed_as g totals)
  pub spare : HasSpare (seal_spare era pages) page

-- the flash fits, the map is one of the geometry, and its records are a checkpoint of it
pub record CanProgram (g : Geometry) (m : MapValue) (contents : Contents) : Type 0 where
  pub shape : FitsOn g contents.shape
  pub map : m.geometry ≡ g
  pub is_map : IsMap g m.entries
  pub listing : IsCheckpointOf g m.entries m.records

-- a page of this kind was programmed, the page behind it is next, and nothing else changed
pub record Programmed (kind : Page → Type 0) (at : Place) (old new : Flash) : Type 0 where
  pub page : Page
  pub is_kind : kind page
  pub pages : new.page ≡ set_page old.page at page
  pub next : new.next ≡ set old.next at.block (Some (at.page + 1))

-- whatever the call answers, the page is unchanged, torn or of this kind, and no other page changed
abbrev pub LeavesOne : (Page → Type 0) → Place → Flash → Flash → Type 0
LeavesOne kind at old new = (new.page ≡ old.page) ⊎ (new.page ≡ set_page old.page at Torn)
    ⊎ ((page : Page) × kind page × (new.page ≡ set_page old.page at page))

-- the first n map pages stand in the region, and the pages behind them are blank and ready; nothing else changed
pub record MapsWritten (g : Geometry) (region era : ℕ) (records : List Record) (n : ℕ) (old new : Flash) : Type 0 where
  pub maps : (i : ℕ) → i < n → IsMapPage g era i (part g records i) (new.page (checkpoint_at g region i))
  pub blank : (i : ℕ) → n ≤ i → i < checkpoint_pages g → new.page (checkpoint_at g region i) ≡ Blank
  pub ready : (i : ℕ) → n ≤ i → i < checkpoint_pages g → (i ≡ n) ⊎ ((checkpoint_at g region i).page ≡ 0)
      → IsNextPage (checkpoint_at g region i) new
  pub beside : (at : Place) → ¬ InCheckpoint g region at.block → new.page at ≡ old.page at
  pub next : (b : ℕ) → ¬ InCheckpoint g region b → new.next b ≡ old.next b

-- whatever the call answers while map pages are programmed, no page of the region is a seal, and nothing else changed
pub record LeavesMaps (g : Geometry) (region : ℕ) (old new : Place → Page) : Type 0 where
  pub bare : IsBare g region new
  pub beside : (at : Place) → ¬ InCheckpoint g region at.block → new at ≡ old at

-- a checkpoint with these records and totals stands in the region, its log is blank, and nothing else changed
pub record IsSealed (g : Geometry) (region era : ℕ) (records : List Record) (totals : Totals) (old new : Place → Page) : Type 0 where
  pub maps : (i : ℕ) → i < map_pages g records → IsMapPage g era i (part g records i) (new (checkpoint_at g region i))
  pub seal : IsSealPage g totals era (map_pages g records) (length records) (new (checkpoint_at g region (map_pages g records)))
  pub log : (at : Place) → InLog g region at.block → new at ≡ Blank
  pub beside : StaysBeside g region old new

-- the log of the checkpoint is ready
pub record IsWritten (g : Geometry) (region era : ℕ) (records : List Record) (totals : Totals) (old new : Flash) : Type 0 where
  pub sealed : IsSealed g region era records totals old.page new.page
  pub log : AreBlank (first_log g + region * g.j) g.j new
  pub ready : ReadyBeside g region old new

-- the map pages of a checkpoint and its seal have the spare bytes of their kind, era and sequence
pub record HasSpares (g : Geometry) (region era pages : ℕ) (page : Place → Page) : Type 0 where
  pub maps : (i : ℕ) → i < pages → HasSpare (map_spare era i) (page (checkpoint_at g region i))
  pub seal : HasSpare (seal_spare era pages) (page (checkpoint_at g region pages))
