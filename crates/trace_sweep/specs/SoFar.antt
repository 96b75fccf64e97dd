-- How far a sweep came.
use Rattle.std.specs.Prelude.{◌<◌, ◌+◌, ℕ, List, length}
use Rattle.std.specs.Io.KnownBytes.{Appends}
use Rattle.ft_base.specs.Contents.{Image}
use Rattle.ft_base.specs.PlainDisk.{PlainDisk}
use Rattle.ft_base.specs.StreamState.{SinkState}
use Rattle.ft_base.specs.Told.{Told}
use Rattle.ft_base.specs.declared.power.Outcome.{Outcome}
use Rattle.ft_media.specs.State.{State}
use Rattle.trace_model.specs.declared.line.Line.{Line}
use Rattle.trace_model.specs.Run.{cuts_in}
use Rattle.trace_replay.specs.declared.ended.Ended.{Ended}
use Rattle.trace_replay.specs.Said.{RoseAtLeast}
use Rattle.trace_sweep.specs.Ends.{BreaksAt}
use Rattle.trace_sweep.specs.Runs.{AreSwept, IsSwept, LeavesNewest, LeavesSwept, Swept, cuts_swept, sweep_text, text_at}

-- the lines, the sink before and after, what an image stands for, and the rig before and after
module _ (o : Told) (outcome : Outcome) (lines : List Line) (x y : SinkState) (stands : Image → PlainDisk → Type 0)
    (old now : State) where
  -- a whole run with power cut in this device write
  pub record RunsAt (number : ℕ) : Type 0 where
    pub s : Swept
    pub is : IsSwept o outcome lines number s
    pub printed : Appends x.taken y.taken (text_at number s)
    pub risen : RoseAtLeast (cuts_in s.run + s.cuts) old.faults.cuts now.faults.cuts
    pub left : LeavesSwept stands now s

  -- these runs were made whole
  pub record HasSwept (runs : List Swept) : Type 0 where
    pub swept : AreSwept o outcome lines runs
    pub printed : Appends x.taken y.taken (sweep_text runs)
    pub risen : RoseAtLeast (cuts_swept runs) old.faults.cuts now.faults.cuts
    pub left : LeavesNewest stands now runs

  -- of `count` runs, these were made whole, and a part of the next one was made
  pub record BreaksSweep (count : ℕ) (e : Ended) : Type 0 where
    pub runs : List Swept
    pub few : length runs < count
    pub swept : AreSwept o outcome lines runs
    pub part : BreaksAt o outcome lines (length runs + 1) (sweep_text runs) x y stands now e
