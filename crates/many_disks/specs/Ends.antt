-- How a run of a trace over several disks ends.
use Rattle.std.specs.Prelude.{◌/◌, ℕ, Result}
use Rattle.ft_base.specs.Contents.{Image}
use Rattle.ft_base.specs.PlainDisk.{PlainDisk}
use Rattle.ft_base.specs.StreamState.{SinkState, SourceState}
use Rattle.ft_base.specs.Told.{Told}
use Rattle.ft_media.specs.State.{State}
use Rattle.trace_replay.specs.Theorem.{EndsAs}
use Rattle.trace_replay.specs.declared.ended.Ended.{Ended}
use Rattle.many_disks.specs.Readings.{ReadsMany}
use Rattle.many_disks.specs.Told.{TellsMany, TellsManyPart}

-- a run ended with this result over so many disks, each of which has as many blocks as the volume has for each of them:
-- this is known of the lines of the source, and what so many plain disks answer was printed
abbrev pub EndsMany : Told → ℕ → SourceState → SourceState → SinkState → SinkState → (Image → PlainDisk → Type 0) → State → State
    → Result (Unit {0}) Ended → Type 0
EndsMany o disks a b x y stands first now result = let share = o.geometry.size / disks in
    EndsAs o (ReadsMany share disks a b) (TellsMany share disks a x y) (TellsManyPart share disks a x y) stands first now result
