-- When a log and a map are the ones of the flash, and how a commit changes them.
use Rattle.std.specs.Prelude.{◌≡◌, ◌⊎◌, ◌≤◌, ◌<◌, ◌+◌, ◌-◌, ◌%◌, ℕ, true, Some, Ok, [], take, nat_lt, if◌then◌else◌}
use Rattle.std.specs.FinMap.{get}
use Rattle.ft_base.specs.declared.geometry.Geometry.{Geometry}
use Rattle.ft_base.specs.declared.block.Place.{Place}
use Rattle.ft_base.specs.declared.block.Page.{Page}
use Rattle.ft_base.specs.Contents.{Flash}
use Rattle.ft_base.specs.Layout.{first_pool, log_at, log_pages}
use Rattle.ft_media.specs.Media.{IsNextPage}
use Rattle.cache_model.specs.declared.entry.Entry.{Entry}
use Rattle.cache_model.specs.declared.format.PageKind.TheVariants.{Log}
use Rattle.cache_model.specs.Records.{Entries}
use Rattle.cache_model.specs.Loading.{Complete, after_all, checkpoint_of, checkpoint_in, checkpoint_region, is_whole, load, log_region, newest}
use Rattle.cache_model.specs.Laws.{ArePages}
use Rattle.op_log.specs.Stamps.{own_stamp}
use Rattle.op_log.specs.Log.{LogValue, log_flushed, if_buffered, restarted}

-- the entries that loading gives, with the buffered records applied, are the map; and the log belongs to the checkpoint
-- that counts
pub record IsCurrent (page : Place → Page) (log : LogValue) (m : Entries) : Type 0 where
  pub durable : Entries
  pub loads : load log.geometry page ≡ Ok durable
  pub buffered : after_all log.geometry log.buffered durable ≡ Some m
  pub newest : Complete
  pub chosen : checkpoint_of log.geometry page ≡ Ok (log.region, newest)
  pub era : newest.stamp.era ≡ log.era

-- each place of the map is a whole page
pub record AreWhole (page : Place → Page) (m : Entries) : Type 0 where
  pub whole : (a : ℕ) (e : Entry) → get m a ≡ Some e → is_whole (page e.place) ≡ true

-- the pages before the log's next one are the ones that loading applies. A page that is left can be programmed next in
-- a ready erase block, if it is the next page of the log or the first of its erase block. The checkpoint that counts
-- has format 2
pub record IsOpenLog (flash : Flash) (log : LogValue) : Type 0 where
  pub before : ArePages Log (own_stamp log.era) 0 (take log.next (log_region log.geometry flash.page log.region))
  pub ready : (i : ℕ) → log.next ≤ i → i < log_pages log.geometry → (i ≡ log.next) ⊎ ((log_at log.geometry log.region i).page ≡ 0)
      → IsNextPage (log_at log.geometry log.region i) flash
  pub format : (c : ℕ × Complete) → newest log.geometry flash.page ≡ Some c → c.1.stamp.format ≡ 2

-- all buffered records are on the flash, and the log can continue
pub record IsCommitted (flash : Flash) (log : LogValue) (m : Entries) : Type 0 where
  pub loads : load log.geometry flash.page ≡ Ok m
  pub nothing : log.buffered ≡ []
  pub current : IsCurrent flash.page log m
  pub opened : IsOpenLog flash log

-- no page of the pool changed
abbrev pub PoolStays : Geometry → (Place → Page) → (Place → Page) → Type 0
PoolStays g old new = (at : Place) → first_pool g ≤ at.block → new at ≡ old at

-- the readiness of the pool's blocks is unchanged
abbrev pub PoolReadyStays : Geometry → Flash → Flash → Type 0
PoolReadyStays g old new = (block : ℕ) → first_pool g ≤ block → new.next block ≡ old.next block

-- the flash stands for the map, or for the same entries as before
abbrev pub LoadsOneOf : Geometry → (Place → Page) → (Place → Page) → Entries → Type 0
LoadsOneOf g old new m = (load g new ≡ Ok m) ⊎ (load g new ≡ load g old)

-- the log of the other region is unchanged while a checkpoint there is complete, unless that checkpoint is the new one
abbrev pub LogGoesLast : LogValue → (Place → Page) → (Place → Page) → Type 0
LogGoesLast log old new = ((c : Complete) × (newest log.geometry new ≡ Some (1 - log.region, c)))
    ⊎ ((c : Complete) → checkpoint_in (checkpoint_region log.geometry new (1 - log.region)) ≡ Some c
    → log_region log.geometry new (1 - log.region) ≡ log_region log.geometry old (1 - log.region))

-- the log of a flash that was just formatted: empty, in region 0, of era 0
abbrev pub log_formatted : Geometry → LogValue
log_formatted g = record { geometry = g; region = 0; era = 0; next = 0; buffered = [] }

-- the log after a checkpoint: empty, in the other region, of the next era
abbrev pub log_checkpointed : LogValue → LogValue
log_checkpointed log = restarted (1 - log.region) ((log.era + 1) % 3) log

-- the log after a commit: one page longer, or after a checkpoint if it had no page left
abbrev pub log_committed : LogValue → LogValue
log_committed log = if_buffered log.buffered
    (if nat_lt log.next (log_pages log.geometry) then log_flushed log else log_checkpointed log) log
