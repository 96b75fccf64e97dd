-- How words run: the command that they say, over the devices that they say.
use Rattle.std.specs.Prelude.{◌≡◌, ◌≢◌, ◌⊎◌, ◌≤◌, ℕ, true, List, Result, ⊤}
use Rattle.std.specs.Io.KnownBytes.{IsAtEnd}
use Rattle.ft_base.specs.Count.{Rose}
use Rattle.ft_base.specs.StreamState.{SinkState, SourceState}
use Rattle.ft_media.specs.State.{State}
use Rattle.trace_replay.specs.Lent.{KeepsLent}
use Rattle.trace_replay.specs.Said.{NoneFailed}
use Rattle.trace_replay.specs.declared.ended.Ended.{Ended}
use Rattle.flashtier_words.specs.Command.{Text}
use Rattle.flashtier_words.specs.Spoken.{AreWordsFor}
use Rattle.flashtier_words.specs.declared.command.Command.{Command}
use Rattle.flashtier_words.specs.declared.command.Command.TheVariants.{Gen, Sweep}
use Rattle.flashtier_words.specs.declared.devices.FlashKind.{FlashKind}
use Rattle.flashtier_words.specs.declared.devices.Parity.{Parity}
use Rattle.flashtier_words.specs.declared.devices.Spoken.{Spoken}
use Rattle.cache_run.specs.Begun.{IsUnbegun}
use Rattle.cache_run.specs.Status.{status_of}
use Rattle.flashtier_run.specs.Ends.{EndsCommand, IsOverOne, IsUntouched}
use Rattle.flashtier_run.specs.Over.{OnDevices}
use Rattle.flashtier_run.specs.Status.{StatusHasCause}
use Rattle.flashtier_run.specs.Words.{AreCommand, AreOverFlash}

-- ---- which command it is

-- it runs a trace that it makes
abbrev pub IsMade : Command → Type 0
IsMade (Gen mode options number count) = ⊤
IsMade other = ⊥

-- it reads a trace
abbrev pub IsRead : Command → Type 0
IsRead (Gen mode options number count) = ⊥
IsRead other = ⊤

-- it sweeps a trace
abbrev pub IsSwept : Command → Type 0
IsSwept (Sweep mode options outcome) = ⊤
IsSwept other = ⊥

-- ---- how it ran

-- where nothing failed and memory was there, every line is run, unless one is refused
pub record RunsEveryLine (command : Command) (status : ℕ) (a b : SourceState) (x y : SinkState) (old new : State) : Type 0 where
  pub complete : IsRead command → (Rose a.faults b.faults → ⊥) → (Rose x.faults y.faults → ⊥)
      → (Rose old.faults.flash new.faults.flash → ⊥) → (Rose old.faults.disk new.faults.disk → ⊥)
      → (status ≡ 0) ⊎ (status ≡ 2) ⊎ (status ≡ 7)
  pub complete_made : IsMade command → (Rose x.faults y.faults → ⊥)
      → (Rose old.faults.flash new.faults.flash → ⊥) → (Rose old.faults.disk new.faults.disk → ⊥)
      → (status ≡ 0) ⊎ (status ≡ 7)

-- it ended with this status, before its volume was made or over it. The status hides no fault, but for one: a sweep
-- reads its trace before it looks at the lines, so another end of it may come before a fault of the source
pub record EndsAt (command : Command) (status : ℕ) {I O : Type 0} (i j : I) (o p : O) (a b : SourceState) (x y : SinkState)
    (first now : State) : Type 0 where
  pub end : Result (Unit {0}) Ended
  pub is : status ≡ status_of end
  pub so : (IsOverOne command × IsUnbegun end i j o p first now) ⊎ EndsCommand a b x y first now command end
  pub source_stays : status ≢ 3 → (IsSwept command → status ≡ 0) → b.faults ≡ a.faults
  pub sink_stays : status ≢ 4 → y.faults ≡ x.faults
  pub none_failed : status ≢ 5 → status ≢ 6 → NoneFailed first now

-- a command ran, with parity or without
pub record Runs (parity : Parity) (command : Command) (status : ℕ) {I O R : Type 0} (i j : I) (o p : O) (r s : R)
    (a b : SourceState) (x y : SinkState) (old new : State) : Type 0 where
  -- Over its volume the text is what a plain disk prints that holds, after each recovery, a prefix of the block writes with every one
  -- acknowledged for good; and the media are that disk, wherever power stops next. With `--ack write` a write is
  -- acknowledged for good by its `wrote` line, with `--ack flush` by the next `flushed`.
  pub ends : OnDevices parity (EndsAt command status i j o p a b x y) old new
  pub end : IsRead command → status ≡ 0 → IsAtEnd b.left
  -- a made trace takes nothing from the source, however it ends
  pub unused : IsMade command → j ≡ i
  pub known : status ≤ 7
  pub other : status ≢ 1
  pub causes : StatusHasCause status a b x y old new
  -- also if power was off before; but a sweep of a trace that it refuses leaves the rig as it was
  pub on : status ≢ 7 → (new.power.on ≡ true) ⊎ (IsSwept command × (s ≡ r))
  pub lent : KeepsLent a b x y old new
  pub lines : RunsEveryLine command status a b x y old new

-- ---- the words

-- the words say this command, over flash of this kind
pub record AreSpoken (kind : FlashKind) (words : List Text) (spoken : Spoken) : Type 0 where
  pub said : AreWordsFor words spoken
  pub flash : spoken.devices.flash ≡ kind

-- their command ran over flash of this kind; or nothing was touched, since they say none or memory for reading them was refused
pub record RunsWords (kind : FlashKind) (words : List Text) (status : ℕ) {I O R : Type 0} (i j : I) (o p : O) (r s : R)
    (a b : SourceState) (x y : SinkState) (old new : State) : Type 0 where
  pub ran : ((spoken : Spoken) × AreSpoken kind words spoken
      × Runs spoken.devices.parity spoken.command status i j o p r s a b x y old new) ⊎ IsUntouched status i j o p r s
  -- a command over such flash is not refused
  pub refused : status ≡ 1 → AreCommand words → AreOverFlash kind words → ⊥
