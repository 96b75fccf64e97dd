-- What each call of a rig in memory does to the rig, and what it answers.
use Rattle.std.specs.Prelude.{◌≡◌, ◌⊎◌, ℕ, true, false, Option, Result, Ok, Err}
use Rattle.ft_base.specs.Contents.{Flash, Values}
use Rattle.ft_media.specs.declared.media.MediaError.{MediaError}
use Rattle.ft_media.specs.declared.media.MediaError.TheVariants as error
use Rattle.ft_media.specs.declared.rig.Counts.{Counts}
use Rattle.device_calls.specs.declared.ending.Ending.{Ending}
use Rattle.device_calls.specs.declared.ending.Ending.TheVariants as ending
use Rattle.device_calls.specs.Calls.{CountsRead, CountsWrite}
use Rattle.disk_model.specs.Steps.{TakesMemory}
use Rattle.mem_rig.specs.declared.rig.MemRig.{MemRig}
use Rattle.mem_rig.specs.Rig.{state_of, flash_calls, disk_calls, flash_listed, disk_listed}
use Rattle.mem_rig.specs.Steps.{FlashWritten, DiskWritten, flash_read_faults, disk_read_faults, read_counts}

-- the answer of the media to a device write with this ending
abbrev pub answer_of : Ending → Result (Unit {0}) MediaError
answer_of ending.Done = Ok tt
answer_of ending.Failed = Err error.Failed
answer_of (ending.Cut outcome) = Err error.PowerLost
answer_of ending.Off = Err error.PowerLost

-- the answer to a block write with this ending, which may also find no memory
abbrev pub AnswersWrite : Ending → Result (Unit {0}) MediaError → Type 0
AnswersWrite how result = (result ≡ answer_of how) ⊎ ((result ≡ Err error.OutOfMemory) × TakesMemory how)

-- no call is counted
pub record Uncounted (old new : MemRig) : Type 0 where
  pub flash : flash_calls new ≡ flash_calls old
  pub disk : disk_calls new ≡ disk_calls old

-- a device write of the flash with this ending, counted once unless power was off
pub record FlashCalled (how : Ending) (old new : MemRig) (left : Flash) (counts_left : Counts) : Type 0 where
  pub written : FlashWritten how (state_of old) (state_of new) left counts_left
  pub calls : CountsWrite how (flash_calls old) (flash_calls new)
  pub disk_calls : disk_calls new ≡ disk_calls old

-- a device write of the disk with this ending, counted once unless power was off
pub record DiskCalled (how : Ending) (old new : MemRig) (left : ℕ → Values) (counts_left : Counts) : Type 0 where
  pub written : DiskWritten how (state_of old) (state_of new) left counts_left
  pub calls : CountsWrite how (disk_calls old) (disk_calls new)
  pub flash_calls : flash_calls new ≡ flash_calls old

-- a read of the flash that failed with this error, or was answered; it is counted once if power is on
pub record FlashRead (refusal : Option MediaError) (old new : MemRig) : Type 0 where
  pub state : state_of new ≡ record (state_of old) { faults = flash_read_faults refusal (state_of old).faults }
  pub counted : (state_of old).power.on ≡ true → CountsRead (flash_listed old) (flash_calls old) (flash_calls new)
  pub uncounted : (state_of old).power.on ≡ false → flash_calls new ≡ flash_calls old
  pub disk_calls : disk_calls new ≡ disk_calls old

-- a read of the disk that failed with this error, or was answered; it is counted once if power is on
pub record DiskRead (refusal : Option MediaError) (old new : MemRig) : Type 0 where
  pub state : state_of new ≡ record (state_of old) {
    counts = read_counts refusal (state_of old).counts;
    faults = disk_read_faults refusal (state_of old).faults;
  }
  pub counted : (state_of old).power.on ≡ true → CountsRead (disk_listed old) (disk_calls old) (disk_calls new)
  pub uncounted : (state_of old).power.on ≡ false → disk_calls new ≡ disk_calls old
  pub flash_calls : flash_calls new ≡ flash_calls old
