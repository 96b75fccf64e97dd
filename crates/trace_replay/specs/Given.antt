-- How a run goes on by the line that was given, and how it ends there or after the last line
use Rattle.std.specs.Prelude.{◌<◌, ◌++◌, ◌∷◌, ℕ, Bool, true, List, [], All, Result}
use Rattle.ft_base.specs.Contents.{Contents, Image}
use Rattle.ft_base.specs.PlainDisk.{BlockWrite, PlainDisk}
use Rattle.ft_base.specs.StreamState.{SinkState, SourceState}
use Rattle.ft_base.specs.Told.{Told}
use Rattle.ft_media.specs.State.{State}
use Rattle.ft_volume.specs.Volume.{VolumeState}
use Rattle.trace_model.specs.declared.line.Line.{Line}
use Rattle.trace_model.specs.declared.ran.Ran.{Ran}
use Rattle.trace_model.specs.Readings.{Reading}
use Rattle.trace_replay.specs.declared.ended.Ended.{Ended}
use Rattle.trace_replay.specs.declared.recent.Recent.{Recent}
use Rattle.trace_replay.specs.declared.tally.Tally.{Tally}
use Rattle.trace_replay.specs.Events.{BreaksBy, CameBy, Event, KnowsLines, events_of}
use Rattle.trace_replay.specs.Events.Event.{Gave}
use Rattle.trace_replay.specs.MayRun.{CanCall, MayRun}
use Rattle.trace_replay.specs.Ran.{MayCount, RanOn}
use Rattle.trace_replay.specs.Theorem.{EndsAs, EndsEarly}

module _ (owned : Contents → Type 0) (owes : Contents → List BlockWrite → Type 0) (stands : Told → Image → PlainDisk → Type 0)
    (v : VolumeState) (now : State) where
  -- some lines were run so far, and the line that was given may be counted and run after them
  pub record MayRunGiven (line : Line) (counted : Tally) (kept : List Recent) : Type 0 where
    pub owns : owned now.contents
    pub may_run : MayRun line v.told now
    pub may_count : MayCount v.told.geometry.size counted
    pub recent : All (λ (r : Recent). r.lba < v.told.geometry.size) kept
    pub so_far : (first : State) × (run : List Ran) × RanOn v.told owes stands v now counted kept first run

  -- some lines were run so far, and the end line may be said after them
  pub record MayEnd (counted : Tally) (kept : List Recent) : Type 0 where
    pub can : CanCall owned now
    pub within : All (λ a. a < v.told.geometry.size) counted.touched.keys
    pub recent : All (λ (r : Recent). r.lba < v.told.geometry.size) kept
    pub so_far : (first : State) × (run : List Ran) × RanOn v.told owes stands v now counted kept first run

-- a run is told by its first state and its lines. If these lines were run, the line that was given was run after them,
-- and its answers were taken
abbrev pub RunsGiven : {P : Type 0} → (SourceState → SinkState → List Event → P → Type 0) → (State → List Ran → Type 0)
    → (State → List Ran → Type 0) → Line → P → P → Type 0
RunsGiven came before after line x y = (first : State) → (run : List Ran) → before first run → (one : Ran) × after first (one ∷ run)
    × ((s : SourceState) → (b : SinkState) → came s b (events_of run ++ Gave line ∷ []) x → came s b (events_of (one ∷ run)) y)

module _ {P : Type 0} (came : SourceState → SinkState → List Event → P → Type 0)
    (broke : SourceState → SinkState → List Event → Event → P → Type 0)
    (knows : SourceState → P → ℕ → List Reading → Bool → Type 0) where
  -- if these lines were run, the run ended early with this error, within the line that was given
  abbrev pub EndsGiven : (State → List Ran → Type 0) → Line → P → P → Told → (Image → PlainDisk → Type 0) → State → Ended → Type 0
  EndsGiven before line x y o stands now e = (first : State) → (run : List Ran) → before first run → (s : SourceState) → (b : SinkState)
      → came s b (events_of run ++ Gave line ∷ []) x
      → EndsEarly o (knows s y) (CameBy came s b y) (BreaksBy broke s b y) stands first now e

  -- if these lines were run and were all lines, the run ended with this result
  abbrev pub EndsLast : (State → List Ran → Type 0) → P → P → Told → (Image → PlainDisk → Type 0) → State → Result (Unit {0}) Ended
      → Type 0
  EndsLast before x y o stands now result = (first : State) → (run : List Ran) → before first run → (s : SourceState) → (b : SinkState)
      → came s b (events_of run) x → KnowsLines knows s x (events_of run) true
      → EndsAs o (knows s y) (CameBy came s b y) (BreaksBy broke s b y) stands first now result
