-- How a sweep ends.
use Rattle.std.specs.Prelude.{◌≡◌, ◌≢◌, ◌⊎◌, ◌≤◌, ◌<◌, ◌+◌, ℕ, Bool, true, false, List, [], ◌∷◌, ◌++◌, length, map, take, Option, Some, None, Result, Ok, Err}
use Rattle.std.specs.Io.KnownBytes.{Appends}
use Rattle.ft_base.specs.Contents.{Image}
use Rattle.ft_base.specs.PlainDisk.{PlainDisk}
use Rattle.ft_base.specs.StreamState.{SinkState}
use Rattle.ft_base.specs.Told.{Told}
use Rattle.ft_base.specs.declared.power.Outcome.{Outcome}
use Rattle.ft_media.specs.Passes.{NeverFall, device_writes}
use Rattle.ft_media.specs.State.{State}
use Rattle.held_trace.specs.Sweep.{RefusesFirst}
use Rattle.trace_model.specs.declared.answer.Answer.{Answer}
use Rattle.trace_model.specs.declared.answer.Answer.TheVariants.{Refused}
use Rattle.trace_model.specs.declared.line.Line.{Line}
use Rattle.trace_model.specs.declared.line.LineError.{LineError}
use Rattle.trace_model.specs.declared.ran.Ran.{Ran}
use Rattle.trace_model.specs.Readings.{Reading, accepted}
use Rattle.trace_model.specs.Run.{told}
use Rattle.trace_model.specs.Text.{text, text_of}
use Rattle.trace_replay.specs.declared.ended.Ended.{Ended}
use Rattle.trace_replay.specs.declared.ended.Ended.TheVariants as ended
use Rattle.trace_replay.specs.Commands.{Gives}
use Rattle.trace_replay.specs.Said.{RoseAtLeast, Said, SaidPart}
use Rattle.trace_replay.specs.Theorem.{EndsPart}
use Rattle.cache_run.specs.Counted.{CountsWrites, blocks_written}
use Rattle.cache_run.specs.Fitted.{fitted_for}
use Rattle.trace_sweep.specs.Runs.{AreSwept, LeavesNewest, Swept, at_text, cuts_swept, stops_at, sweep_text, swept_text}

-- ---- a part of the text

-- behind these bytes, the answers of a plain disk to these lines were printed, and then these answers
abbrev pub TellsBehind : List ℕ → SinkState → SinkState → List Ran → List Answer → Type 0
TellsBehind before old new run answers = Appends old.taken new.taken (before ++ text (told run ++ answers))

-- the same, and then a proper front of the next answer's text
abbrev pub TellsPartBehind : List ℕ → SinkState → SinkState → List Ran → List Answer → Option Answer → Type 0
TellsPartBehind before old new run answers None = ⊥
TellsPartBehind before old new run answers (Some next) = (n : ℕ) × (n < length (text_of next))
    × Appends old.taken new.taken (before ++ (text (told run ++ answers) ++ take n (text_of next)))

-- behind these bytes no part of a line was printed, or a proper front of it if the sink failed
abbrev pub PrintsPart : Ended → List ℕ → List ℕ → SinkState → SinkState → Type 0
PrintsPart ended.Sink before line old new = (n : ℕ) × (n < length line) × Appends old.taken new.taken (before ++ take n line)
PrintsPart other before line old new = Appends old.taken new.taken before

-- behind these bytes, a run with power cut in this device write began, and broke off while it used its volume
pub record BreaksOver (o : Told) (outcome : Outcome) (lines : List Line) (number : ℕ) (before : List ℕ) (x y : SinkState)
    (stands : Image → PlainDisk → Type 0) (now : State) (e : Ended) : Type 0 where
  pub first : State
  pub ended : EndsPart o (Gives (stops_at number outcome ++ lines)) (TellsBehind before x y) (TellsPartBehind before x y) stands
      (fitted_for o.geometry first) now e
  pub on : now.power.on ≡ true

-- behind these bytes such a run broke off: within its own line, before its volume was made, or while it used its
-- volume
abbrev pub BreaksAt : Told → Outcome → List Line → ℕ → List ℕ → SinkState → SinkState → (Image → PlainDisk → Type 0) → State → Ended
    → Type 0
BreaksAt o outcome lines number before x y stands now e = PrintsPart e before (at_text number) x y
    ⊎ ((e ≢ ended.Sink × Appends x.taken y.taken (before ++ at_text number))
    ⊎ BreaksOver o outcome lines number (before ++ at_text number) x y stands now e)

-- ---- while the trace is read

-- the readings that are known of the trace, and the sink before and after
module _ (reads : List Reading → Bool → Type 0) (x y : SinkState) where
  -- a line is the first that is refused, and nothing but its refusal was printed
  pub record SweepRefused : Type 0 where
    pub all : List Reading
    pub whole : Bool
    pub number : ℕ
    pub cause : LineError
    pub trace : reads all whole
    pub refused : RefusesFirst all number cause
    pub printed : Said x y (Refused number cause ∷ [])

  -- the source failed, and none of the known lines is refused; nothing was printed
  pub record SweepUnread : Type 0 where
    pub lines : List Line
    pub trace : reads (map accepted lines) false
    pub printed : Said x y []

  -- the sink failed while it took the refusal of a line
  pub record SweepRefusing : Type 0 where
    pub all : List Reading
    pub whole : Bool
    pub number : ℕ
    pub cause : LineError
    pub trace : reads all whole
    pub refused : RefusesFirst all number cause
    pub printed : SaidPart x y [] (Some (Refused number cause))

  -- the sweep ended with this error before the whole trace was read
  abbrev pub EndsTaken : {T : Type 0} → Result T Ended → Type 0
  EndsTaken (Ok done) = ⊥
  EndsTaken (Err ended.Trace) = SweepRefused
  EndsTaken (Err ended.Source) = SweepUnread
  EndsTaken (Err ended.Sink) = SweepRefusing
  EndsTaken (Err ended.Flash) = ⊥
  EndsTaken (Err ended.Disk) = ⊥
  EndsTaken (Err ended.Memory) = Said x y []

-- ---- while the trace is run

-- a first run of the lines made this many device writes after its volume was created. They are at least as many as
-- the blocks that the lines write, and at most as many as all device writes
pub record IsCount (o : Told) (lines : List Line) (first now : State) (count : ℕ) : Type 0 where
  pub counted : State
  pub writes : CountsWrites o lines count first counted
  pub later : NeverFall counted.counts now.counts
  pub least : blocks_written lines ≤ count
  pub most : device_writes first.counts + count ≤ device_writes now.counts

-- the lines of the trace, the sink before and after, what an image stands for, and the rig before and after
module _ (o : Told) (outcome : Outcome) (lines : List Line) (x y : SinkState) (stands : Image → PlainDisk → Type 0)
    (first now : State) where
  -- power was cut in each of these device writes in turn, and in the second one after it; nothing but the answers of
  -- a plain disk was printed
  pub record SweepsLines : Type 0 where
    pub runs : List Swept
    pub counts : IsCount o lines first now (length runs)
    pub swept : AreSwept o outcome lines runs
    pub printed : Appends x.taken y.taken (sweep_text runs ++ swept_text (length runs))
    pub risen : RoseAtLeast (cuts_swept runs) first.faults.cuts now.faults.cuts
    pub left : LeavesNewest stands now runs
    pub on : now.power.on ≡ true

  -- the sweep ended in the first run, and nothing was printed. Power is on, or memory ran out before the rig was touched
  pub record EndsCounting (e : Ended) : Type 0 where
    pub other : e ≢ ended.Sink
    pub printed : Said x y []
    pub on : e ≢ ended.Memory → now.power.on ≡ true
    pub memory : e ≡ ended.Memory → (now ≡ first) ⊎ (now.power.on ≡ true)

  -- the sweep ended behind these runs: in the next run, or in the last line
  pub record EndsSweeping (e : Ended) : Type 0 where
    pub runs : List Swept
    pub count : ℕ
    pub counts : IsCount o lines first now count
    pub swept : AreSwept o outcome lines runs
    pub part : ((length runs < count) × BreaksAt o outcome lines (length runs + 1) (sweep_text runs) x y stands now e)
        ⊎ ((length runs ≡ count) × PrintsPart e (sweep_text runs) (swept_text count) x y)
    pub on : now.power.on ≡ true

  -- the sweep ended with this result when the whole trace was read
  abbrev pub EndsHeld : Result (Unit {0}) Ended → Type 0
  EndsHeld (Ok done) = SweepsLines
  EndsHeld (Err ended.Trace) = ⊥
  EndsHeld (Err ended.Source) = ⊥
  EndsHeld (Err ended.Sink) = EndsSweeping ended.Sink
  EndsHeld (Err ended.Flash) = EndsCounting ended.Flash ⊎ EndsSweeping ended.Flash
  EndsHeld (Err ended.Disk) = EndsCounting ended.Disk ⊎ EndsSweeping ended.Disk
  EndsHeld (Err ended.Memory) = EndsCounting ended.Memory ⊎ EndsSweeping ended.Memory

-- ---- how a sweep ends

-- nothing was run: a line is refused, the source failed, the sink failed, or memory ran out. Or the whole trace was
-- read, none of its lines is refused, and the trace was run
abbrev pub EndsSweep : Told → Outcome → (List Reading → Bool → Type 0) → SinkState → SinkState → (Image → PlainDisk → Type 0) → State
    → State → Result (Unit {0}) Ended → Type 0
EndsSweep o outcome reads x y stands first now end = (EndsTaken reads x y end × (now ≡ first))
    ⊎ ((lines : List Line) × reads (map accepted lines) true × EndsHeld o outcome lines x y stands first now end)
