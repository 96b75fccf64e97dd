-- Why a sweep ended.
use Rattle.std.specs.Prelude.{◌≡◌, Result, IsErrOf, OnOk}
use Rattle.ft_base.specs.Count.{Rose}
use Rattle.ft_base.specs.StreamState.{SinkState, SourceState}
use Rattle.ft_media.specs.State.{State}
use Rattle.trace_replay.specs.Said.{NoneFailed}
use Rattle.trace_replay.specs.declared.ended.Ended.{Ended}
use Rattle.trace_replay.specs.declared.ended.Ended.TheVariants as ended

-- an end has its cause, and hides no fault of the sink, the flash and the disk. A line that is refused, or memory that
-- ran out, may come before a fault of the source, since the trace is read before its lines are looked at
pub record SweepHasCause {T : Type 0} (result : Result T Ended) (a b : SourceState) (x y : SinkState) (old new : State) : Type 0 where
  pub source : IsErrOf result ended.Source → Rose a.faults b.faults
  pub sink : IsErrOf result ended.Sink → Rose x.faults y.faults
  pub flash : IsErrOf result ended.Flash → Rose old.faults.flash new.faults.flash
  pub disk : IsErrOf result ended.Disk → Rose old.faults.disk new.faults.disk
  pub source_stays : OnOk result (b.faults ≡ a.faults)
  pub sink_stays : (IsErrOf result ended.Sink → ⊥) → y.faults ≡ x.faults
  pub none_failed : (IsErrOf result ended.Flash → ⊥) → (IsErrOf result ended.Disk → ⊥) → NoneFailed old new
