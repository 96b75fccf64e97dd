-- The state after each part of a write-back.
use Rattle.std.specs.Prelude.{◌≡◌, ◌==◌, ℕ, Bool, false, List, [], Some, Result, IsErrOf}
use Rattle.std.specs.List.{list_any}
use Rattle.std.specs.FinMap.{get}
use Rattle.std.specs.Option.{is_some}
use Rattle.ft_base.specs.Contents.{Contents}
use Rattle.ft_media.specs.State.{State}
use Rattle.ft_volume.specs.Opening.{KeepsPlainDisk}
use Rattle.ft_volume.specs.Volume.{FaultDowns, Goes}
use Rattle.ft_volume.specs.declared.volume.VolumeError.{VolumeError}
use Rattle.ft_volume.specs.declared.volume.VolumeError.TheVariants.{OutOfVolume}
use Rattle.cache_model.specs.Cache.{is_write}
use Rattle.cache_model.specs.CacheList.{CacheList, Held}
use Rattle.ssc.specs.CacheState.{Holds, entries_of, pending}
use Rattle.cached_disk.specs.declared.disk.CachedDisk.{CachedDisk}
use Rattle.cached_disk.specs.Kept.{IsLeft, IsMadeAs, StaysOwing, is_down, state_in, told_of, WritesDisk}

-- the address is one of this list
abbrev pub is_among : List ℕ → ℕ → Bool
is_among lbas a = list_any (λ k. k == a) lbas

-- the newest block that the disk has at the address is the held block
abbrev pub IsOnDisk : CachedDisk → Contents → ℕ → Type 0
IsOnDisk v contents a = (s : CacheList) → Holds v.cache contents s → (h : Held) → get s a ≡ Some h → (contents.disk a).newest ≡ h.block

-- no block of the disk waits for a flush
abbrev pub IsFlushed : Contents → Type 0
IsFlushed contents = (a : ℕ) → (contents.disk a).earlier ≡ []

-- a part of a write-back, begun while no write waits. After `Ok` n blocks went to the disk, else at most n. The plain disk is unchanged, and while
-- the volume is up the same addresses are held
pub record Proceeds (n : ℕ) (old new : CachedDisk) (before after : State) (result : Result (Unit {0}) VolumeError) : Type 0 where
  pub left : IsLeft new after.contents
  pub stands : KeepsPlainDisk (told_of old) before.contents after.contents
  pub settled : is_down new ≡ false → list_any is_write (pending new.cache) ≡ false
  pub made : IsMadeAs old new
  pub reserved : new.cache.ready ≡ old.cache.ready
  pub held : is_down new ≡ false → (a : ℕ) → is_some (get (entries_of new.cache) a) ≡ is_some (get (entries_of old.cache) a)
  pub goes : (was is : List ℕ) → Goes (state_in was old) (state_in is new) before after result
  pub faulted : FaultDowns result (is_down new)
  pub writes : WritesDisk n before after result
  pub within : IsErrOf result OutOfVolume → ⊥

-- a whole write-back. The owed writes are on the media first
pub record WritesBack (n : ℕ) (old new : CachedDisk) (before after : State) (result : Result (Unit {0}) VolumeError) : Type 0 where
  pub left : IsLeft new after.contents
  pub keeps : StaysOwing old new before.contents after.contents
  pub made : IsMadeAs old new
  pub reserved : new.cache.ready ≡ old.cache.ready
  pub held : is_down new ≡ false → (a : ℕ) → is_some (get (entries_of new.cache) a) ≡ is_some (get (entries_of old.cache) a)
  pub goes : (was is : List ℕ) → Goes (state_in was old) (state_in is new) before after result
  pub faulted : FaultDowns result (is_down new)
  pub writes : WritesDisk n before after result
  pub within : IsErrOf result OutOfVolume → ⊥
