-- How a command ends.
use Rattle.std.specs.Prelude.{◌≡◌, ◌≤◌, ◌==◌, ◌/◌, ◌⊎◌, ℕ, Bool, true, false, List, [], Option, Result, Ok, ⊤}
use Rattle.cache_model.specs.Stands.{ImageStandsFor}
use Rattle.cache_run.specs.Costed.{EndsCosted}
use Rattle.cache_run.specs.Fitted.{fitted_for}
use Rattle.cache_run.specs.Inspected.{EndsInspected, LoadsAs}
use Rattle.flashtier_words.specs.declared.command.Command.{Command}
use Rattle.flashtier_words.specs.declared.command.Command.TheVariants.{Replay, Cost, Gen, Inspect, Sweep}
use Rattle.flashtier_words.specs.declared.command.TraceForm.{TraceForm}
use Rattle.flashtier_words.specs.declared.command.TraceForm.TheVariants.{Lines, Msr}
use Rattle.ft_base.specs.StreamState.{SinkState, SourceState}
use Rattle.ft_media.specs.State.{State}
use Rattle.ft_volume.specs.Volume.{told_for}
use Rattle.held_trace.specs.Sweep.{SweepReads}
use Rattle.many_disks.specs.Readings.{ReadsMany}
use Rattle.many_disks.specs.Told.{TellsMany, TellsManyPart}
use Rattle.msr_trace.specs.Trace.{ReadsMsr}
use Rattle.trace_gen.specs.Made.{made_trace}
use Rattle.trace_model.specs.Readings.{Reading, Reads}
use Rattle.trace_model.specs.declared.answer.Answer.{Answer}
use Rattle.trace_model.specs.declared.ran.Ran.{Ran}
use Rattle.trace_replay.specs.Commands.{Gives, TellsEnd, TellsEndPart}
use Rattle.trace_replay.specs.Said.{Tells, TellsPart}
use Rattle.trace_replay.specs.Theorem.{EndsAs}
use Rattle.trace_replay.specs.declared.ended.Ended.{Ended}
use Rattle.trace_sweep.specs.Ends.{EndsSweep}

-- a source was read so far that this is known of a trace's lines, in whatever form they are spelled
abbrev pub ReadsIn : TraceForm → ℕ → SourceState → SourceState → ℕ → List Reading → Bool → Type 0
ReadsIn Lines size a b = Reads size a b
ReadsIn Msr size a b = ReadsMsr size a b

-- the same of a trace over so many disks that share so many blocks; the flag says whether it is over one
abbrev pub ReadsOver : Bool → ℕ → TraceForm → ℕ → SourceState → SourceState → ℕ → List Reading → Bool → Type 0
ReadsOver true disks form size a b = ReadsIn form size a b
ReadsOver false disks form size a b = ReadsMany (size / disks) disks a b

-- what such plain disks answer to these lines was said, and then these answers
abbrev pub TellsOver : Bool → ℕ → ℕ → SourceState → SinkState → SinkState → List Ran → List Answer → Type 0
TellsOver true disks size a x y = Tells x y
TellsOver false disks size a x y = TellsMany (size / disks) disks a x y

-- and a part of what comes next
abbrev pub TellsOverPart : Bool → ℕ → ℕ → SourceState → SinkState → SinkState → List Ran → List Answer → Option Answer → Type 0
TellsOverPart true disks size a x y = TellsPart x y
TellsOverPart false disks size a x y = TellsManyPart (size / disks) disks a x y

-- a command ended so: over its volume, a trace that was read, with each answer printed, or with what it cost; a made trace, with its end line
-- alone; a trace that was read, with a report of what is in the cache; or a sweep of a trace, over a volume for each run
module _ (a b : SourceState) (x y : SinkState) (old now : State) where
  abbrev pub EndsCommand : Command → Result (Unit {0}) Ended → Type 0
  EndsCommand (Replay mode options form disks) end = EndsAs (told_for mode options)
      (ReadsOver (disks == 1) disks form options.geometry.size a b) (TellsOver (disks == 1) disks options.geometry.size a x y)
      (TellsOverPart (disks == 1) disks options.geometry.size a x y) (ImageStandsFor options.geometry)
      (fitted_for options.geometry old) now end
  EndsCommand (Cost mode options form) end = EndsCosted (told_for mode options) (ReadsIn form options.geometry.size a b) x y
      (ImageStandsFor options.geometry) old now end
  EndsCommand (Gen mode options number count) end = EndsAs (told_for mode options) (Gives (made_trace number count options.geometry))
      (TellsEnd x y) (TellsEndPart x y) (ImageStandsFor options.geometry) (fitted_for options.geometry old) now end
  EndsCommand (Inspect mode options) end = EndsInspected (told_for mode options) (Reads options.geometry.size a b)
      (LoadsAs options.geometry) x y (ImageStandsFor options.geometry) (fitted_for options.geometry old) now end
  EndsCommand (Sweep mode options outcome) end = EndsSweep (told_for mode options) outcome (SweepReads options.geometry.size a b) x y
      (ImageStandsFor options.geometry) old now end

-- the lines that it ran, if it ran every line of one trace
module _ (a b : SourceState) (x y : SinkState) (old now : State) where
  abbrev pub ran_by : (command : Command) → EndsCommand a b x y old now command (Ok (tt {0})) → List Ran
  ran_by (Replay mode options form disks) end = end.run
  ran_by (Cost mode options form) end = end.ends.run
  ran_by (Gen mode options number count) end = end.run
  ran_by (Inspect mode options) end = end.whole.run
  ran_by (Sweep mode options outcome) end = []

-- it runs over one volume, which is made before anything is read
abbrev pub IsOverOne : Command → Type 0
IsOverOne (Sweep mode options outcome) = ⊥
IsOverOne other = ⊤

-- of a replay the disks that share the volume are one to sixteen, and no more than it has blocks
abbrev pub HasDisks : Command → Type 0
HasDisks (Replay mode options form disks) = (1 ≤ disks) × (disks ≤ 16) × (disks ≤ options.geometry.size)
HasDisks other = ⊤

-- nothing was read, printed or done: the words are no command, or memory for reading them was refused
pub record IsUntouched {I O R : Type 0} (status : ℕ) (a b : I) (x y : O) (old new : R) : Type 0 where
  pub answer : (status ≡ 1) ⊎ (status ≡ 7)
  pub source : b ≡ a
  pub sink : y ≡ x
  pub rig : new ≡ old
