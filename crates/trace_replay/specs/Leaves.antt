-- What calls leave of the volume, and of what a run works with
use Rattle.std.specs.Prelude.{◌<◌, List, All, Result, IfOk, OnOk}
use Rattle.ft_base.specs.Contents.{Contents, Image}
use Rattle.ft_base.specs.PlainDisk.{BlockWrite, PlainDisk}
use Rattle.ft_base.specs.Told.{Told}
use Rattle.ft_media.specs.State.{State}
use Rattle.ft_volume.specs.Volume.{StaysOwner, VolumeState}
use Rattle.trace_model.specs.declared.line.Line.{Line}
use Rattle.trace_model.specs.declared.ran.Ran.{Ran}
use Rattle.trace_replay.specs.declared.ended.Ended.{Ended}
use Rattle.trace_replay.specs.declared.recent.Recent.{Recent}
use Rattle.trace_replay.specs.declared.scratch.Settled.{Settled}
use Rattle.trace_replay.specs.declared.tally.Tally.{Tally}
use Rattle.trace_replay.specs.Owing.{BecameOwing, IfRan, IsClear, OwesRun, StandForLater}
use Rattle.trace_replay.specs.Went.{Keeps}

-- a call that writes nothing was made while nothing was owed. Whatever a crash leaves stands for the same plain disk as
-- before, and after `Ok` nothing is owed again
pub record LeavesClear {T : Type 0} (owned : Contents → Type 0) (owes : Contents → List BlockWrite → Type 0)
    (stands : Told → Image → PlainDisk → Type 0) (v w : VolumeState) (old new : State) (result : Result T Ended) : Type 0 where
  pub owner : StaysOwner owned new.contents v w
  pub kept : Keeps (stands v.told) (stands w.told) old.contents new.contents
  pub clear : OnOk result (IsClear (owes new.contents) (stands w.told) new.contents)

-- a line was begun while some block writes were owed. Whatever a crash leaves stands for the plain disk without the
-- newest of them. After `Ok` the volume has the address of each write that is kept to be read back
pub record LeavesOwing (owned : Contents → Type 0) (was is : Contents → List BlockWrite → Type 0)
    (stands : Told → Image → PlainDisk → Type 0) (v w : VolumeState) (old new : State) (before after : List Recent) (line : Line)
    (result : Result Settled Ended) : Type 0 where
  pub owner : StaysOwner owned new.contents v w
  pub became : IfOk result (λ (s : Settled). IfRan (was old.contents) (stands v.told) old before
      (λ run. BecameOwing (is new.contents) (stands w.told) new.contents after line s.cuts s.kept s.lost run))
  pub images : (run : List Ran) → OwesRun (was old.contents) (stands v.told) old.contents before run
      → StandForLater (stands w.told) new.contents before line run
  pub recent : OnOk result (All (λ (r : Recent). r.lba < v.told.geometry.size) after)

-- after a line that was run, the volume has each address that was counted, and that of each write that is kept to be
-- read back
pub record LeavesWithin {T : Type 0} (owned : Contents → Type 0) (v w : VolumeState) (now : State) (counted : Tally)
    (kept : List Recent) (result : Result T Ended) : Type 0 where
  pub owner : StaysOwner owned now.contents v w
  pub within : OnOk result (All (λ a. a < v.told.geometry.size) counted.touched.keys)
  pub recent : OnOk result (All (λ (r : Recent). r.lba < v.told.geometry.size) kept)
