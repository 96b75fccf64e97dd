-- The errors of a volume after the media or the cache failed.
use Rattle.std.specs.Prelude.{◌≡◌, ◌⊎◌, ◌≤◌, Bool, true, false, Result, Ok, Err, ⊤}
use Rattle.ft_base.specs.declared.geometry.Geometry.{Geometry}
use Rattle.ft_base.specs.Count.{Rose}
use Rattle.ft_media.specs.declared.media.MediaError.{MediaError}
use Rattle.ft_media.specs.declared.media.MediaError.TheVariants as media
use Rattle.ft_volume.specs.declared.volume.VolumeError.{VolumeError}
use Rattle.ft_volume.specs.declared.volume.VolumeError.TheVariants as volume
use Rattle.ft_media.specs.State.{Faults}
use Rattle.cache_model.specs.Loading.{Refusal}
use Rattle.op_log.specs.declared.error.OpenError.{OpenError}
use Rattle.op_log.specs.declared.error.OpenError.TheVariants.{NotFormatted, OtherGeometry, Damaged, FlashFault, DiskFault, PowerLost, OutOfMemory}
use Rattle.op_log.specs.Refusals.{IsRefusal}
use Rattle.ssc.specs.declared.error.SscError.{SscError}
use Rattle.ssc.specs.declared.error.SscError.TheVariants as ssc

-- the error of a volume after the disk failed with this error
abbrev pub disk_error : MediaError → VolumeError
disk_error media.Failed = volume.DiskFault
disk_error media.PowerLost = volume.PowerLost
disk_error media.OutOfMemory = volume.OutOfMemory

-- the error of an opening after the disk failed with this error
abbrev pub flush_error : MediaError → OpenError
flush_error media.Failed = DiskFault
flush_error media.PowerLost = PowerLost
flush_error media.OutOfMemory = OutOfMemory

-- the error of a volume after the cache failed, if the cache isn't full
abbrev pub IsOfCache : SscError → VolumeError → Type 0
IsOfCache (ssc.Full dirty_groups limit) v = ⊥
IsOfCache ssc.FlashFault v = v ≡ volume.FlashFault
IsOfCache ssc.PowerLost v = v ≡ volume.PowerLost
IsOfCache ssc.OutOfMemory v = v ≡ volume.OutOfMemory

-- the opening failed because of a device, power or memory, and not because of the flash's contents
abbrev pub IsFault : OpenError → Type 0
IsFault NotFormatted = ⊥
IsFault (OtherGeometry found wanted) = ⊥
IsFault (Damaged block page) = ⊥
IsFault FlashFault = ⊤
IsFault DiskFault = ⊤
IsFault PowerLost = ⊤
IsFault OutOfMemory = ⊤

-- the error of a volume after such an error of an opening
abbrev pub IsOfOpening : OpenError → VolumeError → Type 0
IsOfOpening NotFormatted v = ⊥
IsOfOpening (OtherGeometry found wanted) v = ⊥
IsOfOpening (Damaged block page) v = ⊥
IsOfOpening FlashFault v = v ≡ volume.FlashFault
IsOfOpening DiskFault v = v ≡ volume.DiskFault
IsOfOpening PowerLost v = v ≡ volume.PowerLost
IsOfOpening OutOfMemory v = v ≡ volume.OutOfMemory

-- the disk failed; or the error is the one that loading gives, or a fault of the flash, a cut or out of memory
abbrev pub IsOpenRefusal : {A : Type 0} → Geometry → OpenError → Result A Refusal → Type 0
IsOpenRefusal g e loads = (e ≡ DiskFault) ⊎ IsRefusal g e loads

-- the disk failed
abbrev pub disk_failed : {T : Type 0} → Result T OpenError → Bool
disk_failed (Err DiskFault) = true
disk_failed (Err e) = false
disk_failed (Ok value) = false

-- each fault has its cause, and none is hidden
pub record CausedBy (old new : Faults) (flash_failed disk_failed was_lost : Bool) : Type 0 where
  pub flash : old.flash ≤ new.flash
  pub disk : old.disk ≤ new.disk
  pub cuts : old.cuts ≤ new.cuts
  pub flash_fault : flash_failed ≡ true → Rose old.flash new.flash
  pub disk_fault : disk_failed ≡ true → Rose old.disk new.disk
  pub power_lost : was_lost ≡ true → Rose old.cuts new.cuts
  pub none : flash_failed ≡ false → disk_failed ≡ false → was_lost ≡ false → new ≡ old
