-- The device writes of a run, counted.
use Rattle.std.proofs.Common.{arith}
use Rattle.std.specs.Prelude.{◌≡◌, ◌≤◌, ◌+◌, ℕ, true, List, sum_by, []}
use Rattle.cache_model.specs.Stands.{ImageStandsFor}
use Rattle.ft_base.specs.Count.{RoseBy, last_count}
use Rattle.ft_base.specs.PlainDisk.{empty}
use Rattle.ft_base.specs.Told.{Told}
use Rattle.ft_media.specs.Passes.{NeverFall, device_writes}
use Rattle.ft_media.specs.State.{State}
use Rattle.ft_volume.specs.Standing.{StandFor}
use Rattle.trace_model.specs.Backs.{backs_in}
use Rattle.trace_model.specs.declared.line.Line.{Line}
use Rattle.trace_model.specs.declared.ran.Ran.{Ran}
use Rattle.trace_model.specs.Fits.{block_count}
use Rattle.trace_model.specs.Run.{lines_of}
use Rattle.trace_replay.specs.Before.{IsBefore}
use Rattle.trace_replay.specs.Said.{RoseAtLeast}
use Rattle.cache_run.specs.Fitted.{fitted_for}

-- how many blocks these lines write
abbrev pub blocks_written : List Line → ℕ
blocks_written lines = sum_by block_count lines

-- a rig that was fitted, and on which a new volume of these options was made since: its plain disk is a disk of zero
-- blocks, power is on and nothing is armed
pub record IsMadeOn (o : Told) (old made : State) : Type 0 where
  pub empty : StandFor (ImageStandsFor o.geometry) made.contents empty
  pub on : made.power.on ≡ true
  pub unarmed : made.power.stops ≡ []
  pub before : IsBefore (fitted_for o.geometry old) made

-- from this moment on so many device writes were made by a run of these lines over a new volume of these options: no
-- fewer than the blocks that they write. Exactly the blocks that such a volume writes to the disk for these lines were
-- written to it, if that count doesn't reach its last value
pub record CountsFrom (o : Told) (lines : List Line) (count : ℕ) (made now : State) : Type 0 where
  pub counts : NeverFall made.counts now.counts
  pub exact : device_writes now.counts ≡ device_writes made.counts + count
  pub least : blocks_written lines ≤ count
  pub run : List Ran
  pub given : lines_of run ≡ lines
  pub backs : RoseBy (backs_in o run) made.counts.disk_writes now.counts.disk_writes
  pub cuts : RoseAtLeast 0 made.faults.cuts now.faults.cuts

-- a run of these lines over a new volume made so many device writes, from the end of the volume's creation on
pub record CountsWrites (o : Told) (lines : List Line) (count : ℕ) (old now : State) : Type 0 where
  pub made : State
  pub new : IsMadeOn o old made
  pub from : CountsFrom o lines count made now

-- no count of the rig falls, and what lies beneath stays
pub record RigGoesOn (old new : State) : Type 0 where
  pub counts : NeverFall old.counts new.counts
  pub flash_later : old.faults.flash ≤ new.faults.flash
  pub disk_later : old.faults.disk ≤ new.faults.disk
  pub lent : new.lent ≡ old.lent

-- a count of no faults fits its type
pub none_few : 0 ≤ last_count
none_few = omega arith
