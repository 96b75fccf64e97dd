-- The status of a run.
use Rattle.std.specs.Prelude.{ℕ, Result, Ok, Err}
use Rattle.trace_replay.specs.declared.ended.Ended.{Ended}
use Rattle.trace_replay.specs.declared.ended.Ended.TheVariants.{Trace, Source, Sink, Flash, Disk, Memory}

-- the status of a run that ended so
abbrev pub status_of : Result (Unit {0}) Ended → ℕ
status_of (Ok done) = 0
status_of (Err Trace) = 2
status_of (Err Source) = 3
status_of (Err Sink) = 4
status_of (Err Flash) = 5
status_of (Err Disk) = 6
status_of (Err Memory) = 7
