-- How a run of a trace ends, and what it leaves: the theorem.
use Rattle.std.specs.Prelude.{◌≡◌, ◌≤◌, ◌+◌, ℕ, Bool, true, false, List, [], ◌∷◌, length, drop, Option, Some, Result, Ok, Err}
use Rattle.ft_base.specs.Contents.{Contents, Image, Now}
use Rattle.ft_base.specs.PlainDisk.{PlainDisk}
use Rattle.ft_base.specs.Told.{Told}
use Rattle.ft_base.specs.declared.told.Ack.{Ack}
use Rattle.ft_base.specs.declared.told.Ack.TheVariants.{Flush}
use Rattle.ft_media.specs.Fitted.{KeepsReady}
use Rattle.ft_media.specs.Passes.{NeverFall}
use Rattle.ft_media.specs.State.{State}
use Rattle.ft_volume.specs.Standing.{StandFor}
use Rattle.trace_model.specs.declared.answer.Answer.{Answer}
use Rattle.trace_model.specs.declared.line.Line.TheVariants as line
use Rattle.trace_model.specs.declared.line.LineError.{LineError}
use Rattle.trace_model.specs.declared.ran.Ran.{Ran}
use Rattle.trace_model.specs.Backs.{ReadsFew, WritesBack, WritesNone, wrote_in}
use Rattle.trace_model.specs.Fits.{FitsEnd, armed_after}
use Rattle.trace_model.specs.Readings.{Reading}
use Rattle.trace_model.specs.Run.{cuts_in, disk_without, end_answers, lines_of}
use Rattle.trace_model.specs.SoFar.{MayRemain, MayTell, WasRun, as_ran, begun, disk_within, next_refusal, refusal}
use Rattle.trace_replay.specs.declared.ended.Ended.{Ended}
use Rattle.trace_replay.specs.declared.ended.Ended.TheVariants as ended
use Rattle.trace_replay.specs.Said.{NoneFailed, RoseAtLeast, TellsStops, TookPart}

-- what every run leaves, of the lines that were run and the lines that were begun. Power is on, and the rig has the
-- shape to which it was fitted. No count is lower than before, and a page was programmed for each block of a write
-- that no stop cut. The disk was called few times if no stop and no cut line was run and the addresses lie in few
-- groups
pub record LeavesRig (o : Told) (first now : State) (run lines : List Ran) : Type 0 where
  pub on : now.power.on ≡ true
  pub shape : now.contents.shape ≡ first.contents.shape
  pub counts : NeverFall first.counts now.counts
  pub programs : RoseAtLeast (wrote_in run) first.counts.programs now.counts.programs
  pub reads : ReadsFew o run lines first.counts.disk_reads now.counts.disk_reads
  pub writes : WritesNone o run lines first.counts.disk_writes now.counts.disk_writes

-- the state after these lines, and this many cuts and lost block writes. Whatever a crash leaves stands for the plain
-- disk. The stops are those that did not cut, and each cut was counted. If there was none, no device failed, and each
-- erase block that was ready is ready
pub record Leaves (o : Told) (stands : Image → PlainDisk → Type 0) (first now : State) (run : List Ran) (cuts lost : ℕ) : Type 0 where
  pub rig : LeavesRig o first now run run
  pub fits : FitsEnd o.ack run cuts lost
  pub disk : StandFor stands now.contents (disk_without lost run)
  pub stops : now.power.stops ≡ drop cuts (armed_after run)
  pub risen : RoseAtLeast (cuts_in run + cuts) first.faults.cuts now.faults.cuts
  pub none_failed : NoneFailed first now
  pub ready : cuts_in run + cuts ≡ 0 → KeepsReady first now

-- the lines that count for the calls of the disk. If writes are on the media only after a flush, a line that cuts power
-- reads back, so it counts from its beginning on
abbrev pub spent_by : Ack → List Ran → List Reading → List Ran
spent_by Flush run (Ok (line.Cut outcome) ∷ left) = as_ran (line.Cut outcome) 0 0 0 ∷ run
spent_by ack run left = run

-- whatever a crash leaves stands for the plain disk after these lines, with some first block writes of the next line
abbrev pub StandForNext : Told → (Image → PlainDisk → Type 0) → Contents → List Ran → List Reading → Type 0
StandForNext o stands contents run left = (x : Image) → Now contents x → (lost : ℕ) × (n : ℕ) × MayRemain o run left lost n
    × stands x (disk_within run left lost n)

-- the state after these lines if the next one was not begun. Whatever a crash leaves stands for their plain disk. No
-- stop is gone that did not cut one of them, and each cut was counted. If there was none, no device failed, and each
-- erase block that was ready is ready
pub record LeavesLines (o : Told) (stands : Image → PlainDisk → Type 0) (first now : State) (run : List Ran)
    (left : List Reading) : Type 0 where
  pub rig : LeavesRig o first now run run
  pub media : StandForNext o stands now.contents run left
  pub stops : now.power.stops ≡ armed_after run
  pub risen : RoseAtLeast (cuts_in run) first.faults.cuts now.faults.cuts
  pub none_failed : NoneFailed first now
  pub ready : cuts_in run ≡ 0 → KeepsReady first now

-- two relations describe a run. The first holds of the readings that are known of its lines when this many were
-- given; its flag says whether these are all. The second holds of the answers that were said to these lines and after
-- them
module _ (o : Told) (reads : ℕ → List Reading → Bool → Type 0) (says : List Ran → List Answer → Type 0)
    (stands : Image → PlainDisk → Type 0) (first now : State) where
  -- every line of the trace was run: a plain disk's answers were said, and the end line after its cuts
  pub record RunsWhole : Type 0 where
    pub all : List Reading
    pub run : List Ran
    pub cuts : ℕ
    pub lost : ℕ
    pub trace : reads (length (lines_of run)) all true
    pub lines : WasRun o all run []
    pub printed : says run (end_answers run cuts lost)
    pub leaves : Leaves o stands first now run cuts lost
    pub backs : WritesBack o run first.counts.disk_writes now.counts.disk_writes

  -- the line after those that were run is refused for a cause, and that was said
  pub record EndsRefused : Type 0 where
    pub all : List Reading
    pub whole : Bool
    pub run : List Ran
    pub left : List Reading
    pub cause : LineError
    pub trace : reads (length (lines_of run)) all whole
    pub lines : WasRun o all run left
    pub why : next_refusal run left ≡ Some cause
    pub printed : says run (refusal run cause)
    pub leaves : LeavesLines o stands first now run left

  -- the source failed: the lines that were known by then were run
  pub record EndsUnread : Type 0 where
    pub all : List Reading
    pub run : List Ran
    pub trace : reads (length (lines_of run)) all false
    pub lines : WasRun o all run []
    pub printed : says run []
    pub leaves : LeavesLines o stands first now run []

-- a third relation holds of the answers that were said, and of one more that was said in part
module _ (o : Told) (reads : ℕ → List Reading → Bool → Type 0) (says : List Ran → List Answer → Type 0)
    (short : List Ran → List Answer → Option Answer → Type 0) (stands : Image → PlainDisk → Type 0) (first now : State) where
  -- the run ended with this error after the answers of these lines and before the last answer of the next line, which
  -- was given or not. The media stand for the plain disk after the former, with first block writes of the latter
  pub record EndsPart (e : Ended) : Type 0 where
    pub all : List Reading
    pub whole : Bool
    pub run : List Ran
    pub left : List Reading
    pub due : List Answer
    pub given : ℕ
    pub after : length (lines_of run) ≤ given
    pub next : given ≤ length (lines_of run) + 1
    pub trace : reads given all whole
    pub lines : WasRun o all run left
    pub may : MayTell o whole run left due
    pub part : TookPart e (says run) (short run) due
    pub proper : part.rest ≡ [] → due ≡ []
    pub stops : TellsStops e part.front (cuts_in run) first now (armed_after run)
    pub media : StandForNext o stands now.contents run left
    pub rig : LeavesRig o first now (spent_by o.ack run left) (begun run left)

  -- how a run ended early
  abbrev pub EndsEarly : Ended → Type 0
  EndsEarly ended.Trace = EndsRefused o reads says stands first now
  EndsEarly ended.Source = EndsUnread o reads says stands first now
  EndsEarly ended.Sink = EndsPart ended.Sink
  EndsEarly ended.Flash = EndsPart ended.Flash
  EndsEarly ended.Disk = EndsPart ended.Disk
  EndsEarly ended.Memory = EndsPart ended.Memory

  -- how a run with this result ended: the whole theorem
  abbrev pub EndsAs : Result (Unit {0}) Ended → Type 0
  EndsAs (Ok done) = RunsWhole o reads says stands first now
  EndsAs (Err e) = EndsEarly e
