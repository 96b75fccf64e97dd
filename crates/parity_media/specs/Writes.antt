-- What a call does to the rig beneath a rig with parity.
use Rattle.std.specs.Prelude.{◌≡◌, ◌≤◌, Bool, true, Result, IsErrOf}
use Rattle.ft_base.specs.Count.{Rose, bumped}
use Rattle.ft_media.specs.declared.media.MediaError.{MediaError}
use Rattle.ft_media.specs.declared.media.MediaError.TheVariants as error
use Rattle.ft_media.specs.declared.rig.Counts.{Counts}
use Rattle.ft_media.specs.State.{State, failed, lost}
use Rattle.ft_media.specs.Passes.{Passes}
use Rattle.ft_media.specs.Media.{Crashed, DiskStays, DeviceWrite}
use Rattle.ft_media.specs.Rig.{SettledByStop}
use Rattle.parity_media.specs.Since.{TellsFaults}

-- every count stays but the one of pages programmed
pub record OtherCountsStay (old new : Counts) : Type 0 where
  pub disk_reads : new.disk_reads ≡ old.disk_reads
  pub disk_writes : new.disk_writes ≡ old.disk_writes
  pub disk_flushes : new.disk_flushes ≡ old.disk_flushes

-- one device write or more that drive the flash alone, up to the first that is refused
pub record WritesFlash {T : Type 0} (old new : State) (result : Result T MediaError) : Type 0 where
  pub disk : DiskStays old.contents new.contents (lost result)
  pub crash : lost result ≡ true → Crashed new.contents
  pub settled : SettledByStop old new (lost result) old.contents.disk
  pub others : OtherCountsStay old.counts new.counts
  pub disk_faults : new.faults.disk ≡ old.faults.disk
  pub faults : TellsFaults old.faults new.faults (failed result) (lost result)
  pub memory : IsErrOf result error.OutOfMemory → ⊥
  pub device : DeviceWrite old new result
  pub passes : Passes old new (lost result)

-- a page that failed was read: of a complete block two of its pages failed
pub record FailsTwice (old new : State) (complete : Bool) : Type 0 where
  pub once : Rose old.faults.flash new.faults.flash
  pub twice : complete ≡ true → bumped (bumped old.faults.flash) ≤ new.faults.flash
