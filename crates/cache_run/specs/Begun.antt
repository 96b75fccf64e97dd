-- What a run begins with.
use Rattle.std.specs.Prelude.{◌≡◌, ◌⊎◌, ◌≤◌, ℕ, true, false, List, Result, OnErr, IsErrOf, []}
use Rattle.ft_base.specs.Contents.{Contents}
use Rattle.ft_base.specs.Count.{Rose}
use Rattle.ft_base.specs.PlainDisk.{BlockWrite, empty}
use Rattle.ft_base.specs.Told.{Told}
use Rattle.ft_media.specs.Passes.{NeverFall}
use Rattle.ft_media.specs.State.{State}
use Rattle.ft_volume.specs.Opening.{ImageIs}
use Rattle.ft_volume.specs.Volume.{VolumeState}
use Rattle.ft_volume.specs.Standing.{StandFor}
use Rattle.trace_replay.specs.Before.{IsBefore}
use Rattle.trace_replay.specs.Said.{NoneFailed}
use Rattle.trace_replay.specs.declared.ended.Ended.{Ended}
use Rattle.trace_replay.specs.declared.ended.Ended.TheVariants.{Flash, Disk, Memory}
use Rattle.cache_run.specs.Fitted.{fitted_for}

-- a new volume of these options, which owns such contents and owes such writes: it is up, it owes nothing, its cache is
-- empty and no block waits to be written back; a disk of zero blocks, on a rig that was fitted for it, with power on and
-- nothing armed
pub record IsNewVolume (o : Told) (owns : Contents → Type 0) (owes : Contents → List BlockWrite → Type 0) (v : VolumeState)
    (old now : State) : Type 0 where
  pub left : owns now.contents
  pub owed : owes now.contents []
  pub told : v.told ≡ o
  pub up : v.down ≡ false
  pub table : v.table ≡ []
  pub held : (a : ℕ) → v.held a ≡ false
  pub empty : StandFor (ImageIs o) now.contents empty
  pub on : now.power.on ≡ true
  pub unarmed : now.power.stops ≡ []
  pub before : IsBefore (fitted_for o.geometry old) now

-- what making a volume does to the rig, whatever it answers: a device that failed is blamed, and its count rose; power is
-- on and nothing is armed, or memory ran out before the rig was fitted; no count falls, and no block of the disk is read
-- or written
pub record Begins {V : Type 0} (result : Result V Ended) (old now : State) : Type 0 where
  pub only : OnErr result (IsErrOf result Flash ⊎ IsErrOf result Disk ⊎ IsErrOf result Memory)
  pub flash : IsErrOf result Flash → Rose old.faults.flash now.faults.flash
  pub disk : IsErrOf result Disk → Rose old.faults.disk now.faults.disk
  pub on : (IsErrOf result Memory → ⊥) → now.power.on ≡ true
  pub unarmed : (IsErrOf result Memory → ⊥) → now.power.stops ≡ []
  pub counts : NeverFall old.counts now.counts
  pub disk_reads : now.counts.disk_reads ≡ old.counts.disk_reads
  pub disk_writes : now.counts.disk_writes ≡ old.counts.disk_writes
  pub flash_later : old.faults.flash ≤ now.faults.flash
  pub disk_later : old.faults.disk ≤ now.faults.disk
  pub none_failed : (IsErrOf result Flash → ⊥) → (IsErrOf result Disk → ⊥) → NoneFailed old now
  pub memory : IsErrOf result Memory → (now ≡ old) ⊎ ((now.power.on ≡ true) × (now.power.stops ≡ []))
  pub lent : now.lent ≡ old.lent

-- it ended before its volume was made: nothing was read or printed, no count fell, and no block of the disk was read or
-- written. If a device failed no stop is armed. If memory ran out the rig is as it was, or has power on and no stop armed
pub record IsUnbegun {T I O : Type 0} (result : Result T Ended) (a b : I) (x y : O) (old now : State) : Type 0 where
  pub only : IsErrOf result Flash ⊎ IsErrOf result Disk ⊎ IsErrOf result Memory
  pub source : b ≡ a
  pub sink : y ≡ x
  pub counts : NeverFall old.counts now.counts
  pub disk_reads : now.counts.disk_reads ≡ old.counts.disk_reads
  pub disk_writes : now.counts.disk_writes ≡ old.counts.disk_writes
  pub unarmed : IsErrOf result Flash ⊎ IsErrOf result Disk → now.power.stops ≡ []
  pub memory : IsErrOf result Memory → (now ≡ old) ⊎ ((now.power.on ≡ true) × (now.power.stops ≡ []))
