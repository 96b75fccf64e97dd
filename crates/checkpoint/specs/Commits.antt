-- The preconditions of a commit, and the flash and the log after it.
use Rattle.std.specs.Prelude.{◌≡◌, ◌+◌, ◌-◌, ◌%◌, List, Result, OnOk, OnErr}
use Rattle.ft_base.specs.declared.geometry.Geometry.{Geometry}
use Rattle.ft_base.specs.declared.record.Record.{Record}
use Rattle.ft_base.specs.Contents.{Contents, Flash}
use Rattle.ft_media.specs.declared.media.MediaError.{MediaError}
use Rattle.ft_media.specs.State.{State}
use Rattle.ft_media.specs.Media.{program_counted}
use Rattle.cache_model.specs.Records.{Entries}
use Rattle.mapping.specs.MapValue.{MapValue}
use Rattle.op_log.specs.Log.{LogValue, FitsOn, HasSpare, log_spare, next_place}
use Rattle.checkpoint.specs.Counts.{checkpoint_counted}
use Rattle.checkpoint.specs.Regions.{HasSpares, map_pages}
use Rattle.checkpoint.specs.Current.{IsCurrent, AreWhole, PoolStays, PoolReadyStays, LoadsOneOf}

-- checkpoints, map and log are of one geometry, which fits the flash. With the buffered records the flash stands for
-- the map
pub record CanCheckpoint (marks : Geometry) (m : MapValue) (log : LogValue) (contents : Contents) : Type 0 where
  pub shape : FitsOn log.geometry contents.shape
  pub own : marks ≡ log.geometry
  pub map : m.geometry ≡ log.geometry
  pub current : IsCurrent contents.flash.page log m.entries
  pub whole : AreWhole contents.flash.page m.entries

-- after `Ok` the log is `next`; after `Err` it is unchanged
pub record LogGoesOn {T : Type 0} (next old new : LogValue) (result : Result T MediaError) : Type 0 where
  pub geometry : new.geometry ≡ old.geometry
  pub log : OnOk result (new ≡ next)
  pub refused : OnErr result (new ≡ old)

-- whatever the call answers, the flash stands for the map, or for the same entries as before, and no page of the pool
-- changed. After `Ok` the readiness of the pool's blocks is unchanged too
pub record LeavesPool {T : Type 0} (g : Geometry) (m : Entries) (old new : Flash) (result : Result T MediaError) : Type 0 where
  pub stands : LoadsOneOf g old.page new.page m
  pub pool : PoolStays g old.page new.page
  pub pool_ready : OnOk result (PoolReadyStays g old new)

-- one program: the next page of the log has the spare bytes of its era and number
pub record AddsLogPage (log : LogValue) (old new : State) : Type 0 where
  pub spare : HasSpare (log_spare log.era log.next) (new.contents.flash.page (next_place log))
  pub counts : new.counts ≡ program_counted old.counts

-- the writes of one checkpoint: its pages, in the other region, have the spare bytes of the next era
pub record AddsCheckpoint (log : LogValue) (records : List Record) (old new : State) : Type 0 where
  pub spares : HasSpares log.geometry (1 - log.region) ((log.era + 1) % 3) (map_pages log.geometry records) new.contents.flash.page
  pub counts : new.counts ≡ checkpoint_counted log.geometry (map_pages log.geometry records) old.counts
