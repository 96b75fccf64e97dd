-- The operation log: the buffered records, and the page that takes them.
use Rattle.std.specs.Prelude.{◌≡◌, ◌⊎◌, ◌≤◌, ◌+◌, ℕ, List, [], ◌∷◌, ◌++◌, length, Some}
use Rattle.ft_base.specs.declared.geometry.Geometry.{Geometry}
use Rattle.ft_base.specs.declared.block.Block.{Block}
use Rattle.ft_base.specs.declared.block.Spare.{Spare}
use Rattle.ft_base.specs.declared.block.Place.{Place}
use Rattle.ft_base.specs.declared.block.Page.{Page}
use Rattle.ft_base.specs.declared.block.Page.TheVariants.{Whole, Torn}
use Rattle.ft_base.specs.declared.record.Record.{Record}
use Rattle.ft_base.specs.Contents.{Flash, Shape, set, set_page}
use Rattle.ft_base.specs.Layout.{blocks, log_at}
use Rattle.ft_media.specs.declared.rig.Counts.{Counts}
use Rattle.ft_media.specs.Media.{program_counted}
use Rattle.cache_model.specs.declared.format.Header.{Header}
use Rattle.cache_model.specs.declared.format.PageKind.TheVariants.{Log}
use Rattle.cache_model.specs.declared.format.SpareKind.TheVariants.{Log as LogSpare}
use Rattle.cache_model.specs.Spelling.{spelled_spare, spare_fields}
use Rattle.cache_model.specs.Reading.{read_records}
use Rattle.cache_model.specs.Loading.{header_at, said}
use Rattle.op_log.specs.Stamps.{own_stamp}

-- a log: its region, its era, the page to program next, and the records that no page has yet
pub record LogValue : Type 0 where
  pub geometry : Geometry
  pub region : ℕ
  pub era : ℕ
  pub next : ℕ
  pub buffered : List Record

-- the place of the page to program next
abbrev pub next_place : LogValue → Place
next_place log = log_at log.geometry log.region log.next

-- the media have the geometry's pages, and at least its erase blocks and its disk
pub record FitsOn (g : Geometry) (shape : Shape) : Type 0 where
  pub pages : shape.pages ≡ g.p
  pub blocks : blocks g ≤ shape.blocks
  pub size : g.size ≤ shape.size

-- the log is empty, and continues at page 0 of this region
abbrev pub restarted : ℕ → ℕ → LogValue → LogValue
restarted region era log = record log { region = region; era = era; next = 0; buffered = [] }

abbrev pub pushed : Record → LogValue → LogValue
pushed change log = record log { buffered = log.buffered ++ change ∷ [] }

-- one value if something is buffered, and another if nothing is
abbrev pub if_buffered : {A : Type 0} → List Record → A → A → A
if_buffered [] some none = none
if_buffered (change ∷ changes) some none = some

-- all buffered records have a page
abbrev pub log_flushed : LogValue → LogValue
log_flushed log = if_buffered log.buffered (record log { next = log.next + 1; buffered = [] }) log

-- a whole page of a log with these records, in format 2, for a cache with p pages in an erase block
pub record IsLogPage (p era sequence : ℕ) (changes : List Record) (page : Page) : Type 0 where
  pub header : Header
  pub head : header_at Log (own_stamp era) sequence page ≡ Some header
  pub records : said (read_records p header) page ≡ Some changes

-- the log's next page has all buffered records, and no other page changed
pub record Appended (log : LogValue) (old new : Flash) : Type 0 where
  pub page : Page
  pub is_page : IsLogPage log.geometry.p log.era log.next log.buffered page
  pub pages : new.page ≡ set_page old.page (next_place log) page

-- the page behind it is next
pub record AppendedReady (log : LogValue) (old new : Flash) : Type 0 where
  pub appended : Appended log old new
  pub next : new.next ≡ set old.next (next_place log).block (Some ((next_place log).page + 1))

-- whatever the call answers, the log's next page is unchanged, torn, or has all buffered records
abbrev pub LeavesLog : LogValue → Flash → Flash → Type 0
LeavesLog log old new = (new.page ≡ old.page) ⊎ (new.page ≡ set_page old.page (next_place log) Torn) ⊎ Appended log old new

-- one program, if something is buffered
abbrev pub log_flush_counted : LogValue → Counts → Counts
log_flush_counted log counts = if_buffered log.buffered (program_counted counts) counts

-- the header of a page of a log with these records
abbrev pub log_header : ℕ → ℕ → List Record → Header
log_header era sequence changes = record { format = 2; kind = Log; era = era; sequence = sequence; count = length changes }

-- the spare bytes of a log page of this era and sequence
abbrev pub log_spare : ℕ → ℕ → Spare
log_spare era sequence = record { 0 = spelled_spare (spare_fields LogSpare era sequence) }

-- the page is whole, with these spare bytes
abbrev pub HasSpare : Spare → Page → Type 0
HasSpare spare page = (block : Block) × (page ≡ Whole block spare)
