-- That the status of a run has its cause.
use Rattle.std.specs.Prelude.{◌≡◌, ℕ}
use Rattle.ft_base.specs.Count.{Rose}
use Rattle.ft_base.specs.StreamState.{SinkState, SourceState}
use Rattle.ft_media.specs.State.{State}

-- a status has its cause: where it tells that the source, the sink, the flash or the disk failed, that one's count of faults rose
pub record StatusHasCause (status : ℕ) (a b : SourceState) (x y : SinkState) (old new : State) : Type 0 where
  pub source : status ≡ 3 → Rose a.faults b.faults
  pub sink : status ≡ 4 → Rose x.faults y.faults
  pub flash : status ≡ 5 → Rose old.faults.flash new.faults.flash
  pub disk : status ≡ 6 → Rose old.faults.disk new.faults.disk
