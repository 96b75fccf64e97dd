-- What each call of a rig in memory leaves.
use Rattle.std.specs.Prelude.{◌≡◌, ℕ, Bool, true, false, Option, Some, None}
use Rattle.ft_base.specs.declared.power.Outcome.{Outcome}
use Rattle.ft_base.specs.Count.{bumped}
use Rattle.ft_base.specs.Contents.{Contents, Flash, Values}
use Rattle.ft_media.specs.declared.media.MediaError.{MediaError}
use Rattle.ft_media.specs.declared.media.MediaError.TheVariants as error
use Rattle.ft_media.specs.declared.rig.Counts.{Counts}
use Rattle.ft_media.specs.State.{State, Faults}
use Rattle.device_calls.specs.declared.ending.Ending.{Ending}
use Rattle.device_calls.specs.declared.ending.Ending.TheVariants as ending
use Rattle.device_calls.specs.Calls.{faults_after, bumped_if_done}
use Rattle.nand_model.specs.Steps.{unready}
use Rattle.ft_media.specs.Rig.{after_cut}
use Rattle.mem_rig.specs.Power.{power_after_write}

abbrev pub cut_bumped : Faults → Faults
cut_bumped faults = record faults { cuts = bumped faults.cuts }

abbrev pub flash_bumped : Faults → Faults
flash_bumped faults = record faults { flash = bumped faults.flash }

abbrev pub disk_bumped : Faults → Faults
disk_bumped faults = record faults { disk = bumped faults.disk }

-- a device write that was cut, or that found power off, raises the count of cuts
abbrev pub cuts_left : Ending → ℕ → ℕ
cuts_left ending.Done cuts = cuts
cuts_left ending.Failed cuts = cuts
cuts_left (ending.Cut outcome) cuts = bumped cuts
cuts_left ending.Off cuts = bumped cuts

-- the faults after a device write of the flash, and after a device write of the disk
abbrev pub flash_faults_left : Ending → Faults → Faults
flash_faults_left how faults = record { flash = faults_after how faults.flash; disk = faults.disk; cuts = cuts_left how faults.cuts }

abbrev pub disk_faults_left : Ending → Faults → Faults
disk_faults_left how faults = record { flash = faults.flash; disk = faults_after how faults.disk; cuts = cuts_left how faults.cuts }

-- a device write that was cut settles the disk, and leaves no block ready
abbrev pub disk_beside : Ending → (ℕ → Values) → ℕ → Values
disk_beside (ending.Cut outcome) disk = after_cut outcome disk
disk_beside other disk = disk

abbrev pub flash_beside : Ending → Flash → Flash
flash_beside (ending.Cut outcome) flash = unready flash
flash_beside other flash = flash

-- a device write of the flash with this ending
pub record FlashWritten (how : Ending) (old new : State) (left : Flash) (counts_left : Counts) : Type 0 where
  pub shape : new.contents.shape ≡ old.contents.shape
  pub flash : new.contents.flash ≡ left
  pub disk : new.contents.disk ≡ disk_beside how old.contents.disk
  pub counts : new.counts ≡ counts_left
  pub faults : new.faults ≡ flash_faults_left how old.faults
  pub power : new.power ≡ power_after_write old.power
  pub lent : new.lent ≡ old.lent

-- a device write of the disk with this ending
pub record DiskWritten (how : Ending) (old new : State) (left : ℕ → Values) (counts_left : Counts) : Type 0 where
  pub shape : new.contents.shape ≡ old.contents.shape
  pub flash : new.contents.flash ≡ flash_beside how old.contents.flash
  pub disk : new.contents.disk ≡ left
  pub counts : new.counts ≡ counts_left
  pub faults : new.faults ≡ disk_faults_left how old.faults
  pub power : new.power ≡ power_after_write old.power
  pub lent : new.lent ≡ old.lent

-- the counts after a call of each kind
abbrev pub program_counts : Ending → Counts → Counts
program_counts how counts = record counts { programs = bumped_if_done how counts.programs }

abbrev pub erase_counts : Ending → Counts → Counts
erase_counts how counts = record counts { erases = bumped_if_done how counts.erases }

abbrev pub write_counts : Ending → Counts → Counts
write_counts how counts = record counts { disk_writes = bumped_if_done how counts.disk_writes }

abbrev pub flush_counts : Ending → Counts → Counts
flush_counts how counts = record counts { disk_flushes = bumped_if_done how counts.disk_flushes }

abbrev pub read_counts : Option MediaError → Counts → Counts
read_counts (Some error) counts = counts
read_counts None counts = record counts { disk_reads = bumped counts.disk_reads }

-- why a read fails, with power on and off, if its number is listed and if it isn't
abbrev pub read_refusal : Bool → Bool → Option MediaError
read_refusal false listed = Some error.PowerLost
read_refusal true true = Some error.Failed
read_refusal true false = None

-- the faults after a read of the flash that failed with this error, and after a read of the disk that did
abbrev pub flash_read_faults : Option MediaError → Faults → Faults
flash_read_faults (Some error.Failed) faults = flash_bumped faults
flash_read_faults (Some error.PowerLost) faults = cut_bumped faults
flash_read_faults other faults = faults

abbrev pub disk_read_faults : Option MediaError → Faults → Faults
disk_read_faults (Some error.Failed) faults = disk_bumped faults
disk_read_faults (Some error.PowerLost) faults = cut_bumped faults
disk_read_faults other faults = faults

-- the contents after power was cut between two device writes
abbrev pub cut_contents : Outcome → Contents → Contents
cut_contents outcome contents = record { shape = contents.shape; flash = unready contents.flash; disk = after_cut outcome contents.disk }
