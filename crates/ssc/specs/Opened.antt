-- The pages that an opening writes, and its cost.
use Rattle.std.specs.Prelude.{◌≡◌, ℕ, false, [], Result, Ok, IfOk, OnOk, OnErr}
use Rattle.ft_base.specs.declared.block.Place.{Place}
use Rattle.ft_base.specs.declared.block.Page.{Page}
use Rattle.ft_base.specs.declared.geometry.Geometry.{Geometry}
use Rattle.ft_base.specs.Contents.{Contents, Image, Now}
use Rattle.ft_media.specs.State.{State}
use Rattle.ft_media.specs.Passes.{ProgramsPages}
use Rattle.ft_media.specs.Reads.{ReadsFlash}
use Rattle.cache_model.specs.CacheList.{CacheList}
use Rattle.cache_model.specs.Loading.{Complete, checkpoint_of, load}
use Rattle.cache_model.specs.Stands.{FlashStandsFor}
use Rattle.op_log.specs.declared.error.OpenError.{OpenError}
use Rattle.op_log.specs.Refusals.{open_failed, open_lost}
use Rattle.checkpoint.specs.Commits.{AddsCheckpoint}
use Rattle.checkpoint.specs.Current.{PoolStays, log_checkpointed}
use Rattle.recovery.specs.declared.loading.Loaded.{Loaded}
use Rattle.recovery.specs.Loaded.{IsLoaded}
use Rattle.ssc.specs.declared.cache.Ssc.{Ssc}
use Rattle.ssc.specs.declared.opening.LoadedCache.{LoadedCache}
use Rattle.ssc.specs.CacheState.{Holds, IsUp, entries_of, geometry_of}
use Rattle.ssc.specs.Kept.{IsJustOpened}
use Rattle.ssc.specs.Own.{HoldsOwn, LoadsOwn}
use Rattle.ssc.specs.Steps.{IsLoadedAs, log_found}

-- the cache has the entries that these pages load, and no command was called
pub record IsLoadedFrom (g : Geometry) (page : Place → Page) (c : LoadedCache) : Type 0 where
  pub loaded : Loaded
  pub is_loaded : IsLoaded g page loaded
  pub parts : IsLoadedAs g loaded c.cache.parts
  pub places : c.cache.before ≡ []
  pub unready : c.cache.ready ≡ false
  pub up : c.cache.stopped ≡ false

-- a cache that was opened over these pages: it holds the list for which they stood, and commands may be called
pub record IsOpenedOver (g : Geometry) (page : Place → Page) (contents : Contents) (c : Ssc) : Type 0 where
  pub geometry : geometry_of c ≡ g
  pub holds : (s : CacheList) → FlashStandsFor g page s → Holds c contents s
  pub loads : load g page ≡ Ok (entries_of c)
  pub opened : IsJustOpened g c
  pub is_up : IsUp c contents
  pub own : LoadsOwn g page → HoldsOwn c contents

-- the flash still stands for the list for which these pages stood, and it loads the same entries
pub record StandsStill (g : Geometry) (page : Place → Page) (contents : Contents) : Type 0 where
  pub images : (s : CacheList) → FlashStandsFor g page s → (x : Image) → Now contents x → FlashStandsFor g x.page s
  pub same : load g contents.flash.page ≡ load g page

-- one checkpoint of the loaded entries was made. It is in the region that lacks the checkpoint that was found, and of
-- the era after it. No page of the pool changed
pub record MadeCheckpoint (g : Geometry) (c : Ssc) (before after : State) : Type 0 where
  pub region : ℕ
  pub newest : Complete
  pub found : checkpoint_of g before.contents.flash.page ≡ Ok (region, newest)
  pub log : c.parts.log ≡ log_checkpointed (log_found g region newest.stamp.era)
  pub adds : AddsCheckpoint (log_found g region newest.stamp.era) c.parts.map.records before after
  pub pool : PoolStays g before.contents.flash.page after.contents.flash.page

-- after `Ok` an opening has made that one checkpoint; after `Err` it has only read, unless the flash failed or power
-- was lost
pub record CostsOpening (g : Geometry) (before after : State) (result : Result Ssc OpenError) : Type 0 where
  pub made : IfOk result (λ c. MadeCheckpoint g c before after)
  pub programs : OnOk result (ProgramsPages 1 before after)
  pub refused : OnErr result (open_failed result ≡ false → open_lost result ≡ false → ReadsFlash before after false false)
