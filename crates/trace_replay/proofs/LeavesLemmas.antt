-- What a call leaves of the volume, if it ended with an error.
use Rattle.std.proofs.Common.{◌≡◌, List, Result, Ok, Err}
use Rattle.std.specs.Result.{IsErrAnd}
use Rattle.ft_base.specs.Contents.{Contents, Image}
use Rattle.ft_base.specs.PlainDisk.{BlockWrite, PlainDisk}
use Rattle.ft_base.specs.Told.{Told}
use Rattle.ft_media.specs.State.{State}
use Rattle.ft_volume.specs.Volume.{StaysOwner, VolumeState}
use Rattle.trace_model.specs.declared.line.Line.{Line}
use Rattle.trace_model.specs.declared.ran.Ran.{Ran}
use Rattle.trace_replay.specs.declared.ended.Ended.{Ended}
use Rattle.trace_replay.specs.declared.recent.Recent.{Recent}
use Rattle.trace_replay.specs.declared.scratch.Settled.{Settled}
use Rattle.trace_replay.specs.Leaves.{LeavesClear, LeavesOwing}
use Rattle.trace_replay.specs.Owing.{OwesRun, StandForLater}
use Rattle.trace_replay.specs.Went.{Keeps}

module _ (owned : Contents → Type 0) (owes : Contents → List BlockWrite → Type 0) (stands : Told → Image → PlainDisk → Type 0) (v w : VolumeState) (old new : State) where
  pub clear_exit : {T : Type 0} (r : Result T Ended) (from : Ended) → IsErrAnd r (λ e. e ≡ from) → StaysOwner owned new.contents v w → Keeps (stands v.told) (stands w.told) old.contents new.contents
      → LeavesClear owned owes stands v w old new r
  clear_exit (Ok value) from is_err owner kept = absurd is_err
  clear_exit (Err e) from is_err owner kept = record { owner = owner; kept = kept; clear = tt }

module _ (owned : Contents → Type 0) (was is : Contents → List BlockWrite → Type 0) (stands : Told → Image → PlainDisk → Type 0) (v w : VolumeState) (old new : State) where
  pub owing_exit : (before after : List Recent) (line : Line) (r : Result Settled Ended) (from : Ended) → IsErrAnd r (λ e. e ≡ from) → StaysOwner owned new.contents v w
      → ((run : List Ran) → OwesRun (was old.contents) (stands v.told) old.contents before run → StandForLater (stands w.told) new.contents before line run)
      → LeavesOwing owned was is stands v w old new before after line r
  owing_exit before after line (Ok value) from is_err owner images = absurd is_err
  owing_exit before after line (Err e) from is_err owner images = record { owner = owner; became = tt; images = images; recent = tt }
