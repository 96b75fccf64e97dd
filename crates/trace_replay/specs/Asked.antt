-- What the lines of a run ask for, and how often power is cut in it.
use Rattle.std.specs.Prelude.{◌≡◌, ◌≤◌, ◌+◌, ◌^◌, ℕ, Bool, true, List, [], length, sum_by, Option, Some, None, Result, Ok, Err}
use Rattle.ft_base.specs.Contents.{Image}
use Rattle.ft_base.specs.PlainDisk.{PlainDisk}
use Rattle.ft_base.specs.Told.{Told}
use Rattle.ft_media.specs.State.{State}
use Rattle.trace_model.specs.declared.answer.Answer.{Answer}
use Rattle.trace_model.specs.declared.answer.Answer.TheVariants as answer
use Rattle.trace_model.specs.declared.line.Line.{Line}
use Rattle.trace_model.specs.declared.line.Line.TheVariants as line
use Rattle.trace_model.specs.declared.ran.Ran.{Ran}
use Rattle.trace_model.specs.Backs.{AreUncut, WritesBack}
use Rattle.trace_model.specs.Fits.{block_count}
use Rattle.trace_model.specs.Readings.{Reading}
use Rattle.trace_model.specs.Run.{lines_of, told}
use Rattle.trace_model.specs.SoFar.{WasRun}
use Rattle.trace_replay.specs.declared.asked.Asked.{Asked}
use Rattle.trace_replay.specs.declared.ended.Ended.{Ended}
use Rattle.trace_replay.specs.Events.{Event, answers_in, lines_given}
use Rattle.trace_replay.specs.Theorem.{EndsEarly, LeavesLines}

-- the blocks that a line reads
abbrev pub read_blocks : Line → ℕ
read_blocks (line.Read lba count) = count
read_blocks other = 0

-- the blocks that these lines write, and those that they read
abbrev pub asked_writes : List Line → ℕ
asked_writes lines = sum_by block_count lines

abbrev pub asked_reads : List Line → ℕ
asked_reads lines = sum_by read_blocks lines

-- an answer tells that power was cut: by a stop, or by a line
abbrev pub power_cut : Answer → ℕ
power_cut answer.Stopped = 1
power_cut answer.Cut = 1
power_cut other = 0

-- how often these answers tell it
abbrev pub power_cuts : List Answer → ℕ
power_cuts answers = sum_by power_cut answers

-- if no stop and no cut line was run, no more blocks were read from the disk than these lines read
pub record ReadsNoMore (run : List Ran) (old new : ℕ) : Type 0 where
  pub most : AreUncut run → new ≤ old + asked_reads (lines_of run)

-- a total; or none if it is 2^64 or more
abbrev pub IsTotal : ℕ → Option ℕ → Type 0
IsTotal total None = 2 ^ 64 ≤ total
IsTotal total (Some count) = count ≡ total

-- of these events the lines and the answers were counted
pub record IsAskedIn (e : List Event) (asked : Asked) : Type 0 where
  pub written : IsTotal (asked_writes (lines_given e)) asked.written
  pub read : IsTotal (asked_reads (lines_given e)) asked.read
  pub cuts : IsTotal (power_cuts (answers_in e)) asked.cuts

-- that many blocks these lines write and read, and so often power was cut
pub record IsAskedBy (run : List Ran) (asked : Asked) : Type 0 where
  pub written : IsTotal (asked_writes (lines_of run)) asked.written
  pub read : IsTotal (asked_reads (lines_of run)) asked.read
  pub cuts : IsTotal (power_cuts (told run)) asked.cuts

module _ (o : Told) (reads : ℕ → List Reading → Bool → Type 0) (says : List Ran → List Answer → Type 0)
    (stands : Image → PlainDisk → Type 0) (first now : State) where
  -- every line of a trace was run, and nothing behind the last one
  pub record RunsLines : Type 0 where
    pub all : List Reading
    pub run : List Ran
    pub trace : reads (length (lines_of run)) all true
    pub lines : WasRun o all run []
    pub printed : says run []
    pub leaves : LeavesLines o stands first now run []
    pub backs : WritesBack o run first.counts.disk_writes now.counts.disk_writes
    pub reads_no_more : ReadsNoMore run first.counts.disk_reads now.counts.disk_reads

-- how a run ended that gave this result, if nothing is done behind its last line
module _ {T : Type 0} (o : Told) (reads : ℕ → List Reading → Bool → Type 0) (says : List Ran → List Answer → Type 0)
    (short : List Ran → List Answer → Option Answer → Type 0) (stands : Image → PlainDisk → Type 0) (first now : State) where
  abbrev pub EndsLines : (T → List Ran → Type 0) → Result T Ended → Type 0
  EndsLines of (Ok told) = (runs : RunsLines o reads says stands first now) × of told runs.run
  EndsLines of (Err e) = EndsEarly o reads says short stands first now e
