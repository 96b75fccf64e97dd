-- The two steps of an opening: the load after a flush of the disk, and the effects of the whole opening.
use Rattle.std.specs.Prelude.{◌≡◌, ℕ, [], Ok, Result, OnOk, IfOk}
use Rattle.ft_base.specs.Contents.{flushed}
use Rattle.ft_media.specs.State.{State}
use Rattle.ft_base.specs.declared.geometry.Geometry.{Geometry}
use Rattle.ft_base.specs.declared.told.Mode.{Mode}
use Rattle.ft_volume.specs.Opening.{OpensOver}
use Rattle.ft_volume.specs.Volume.{told_for}
use Rattle.ft_volume.specs.declared.options.Options.{Options}
use Rattle.op_log.specs.Log.{FitsOn}
use Rattle.op_log.specs.declared.error.OpenError.{OpenError}
use Rattle.ssc.specs.declared.opening.LoadedCache.{LoadedCache}
use Rattle.ssc.specs.CacheState.{entries_of}
use Rattle.ssc.specs.Opened.{IsLoadedFrom}
use Rattle.cached_disk.specs.declared.disk.CachedDisk.{CachedDisk}
use Rattle.cached_disk.specs.Kept.{IsFresh, IsLeft, IsOpening, OnlyFlushed, OnlyOpens, Owes, StandsOpened, WritesNothingRefused, is_down, told_of}

-- since this start the disk was flushed and the flash was loaded, and nothing else was done
pub record LoadedSince (g : Geometry) (start now : State) (c : LoadedCache) : Type 0 where
  pub shape : FitsOn g start.contents.shape
  pub cache : IsLoadedFrom g start.contents.flash.page c
  pub disk : (lba : ℕ) → now.contents.disk lba ≡ flushed (start.contents.disk lba)
  pub only : OnlyFlushed start now
  pub goes : OnlyOpens {T = LoadedCache} start now (Ok c)

-- all effects of an opening, from its start on
pub record OpensDisk (mode : Mode) (options : Options) (start after : State) (result : Result CachedDisk OpenError) : Type 0 where
  pub owns : IfOk result (λ v. IsLeft v after.contents)
  pub owes : IfOk result (λ v. Owes v after.contents [])
  pub opened : IfOk result (λ v. OpensOver (told_for mode options) start.contents.flash.page (λ s. IsFresh mode options s v) (told_of v)
      (is_down v) (entries_of v.cache))
  pub opening : IsOpening options.geometry start after result
  pub reads : WritesNothingRefused start after result
  pub stands : OnOk result (StandsOpened (told_for mode options) start.contents after.contents)
