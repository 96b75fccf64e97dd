-- A text that is printed
use Rattle.std.specs.Prelude.{◌≡◌, ◌<◌, ℕ, List, [], length, take, Result, OnOk, IsErrOf}
use Rattle.std.specs.Io.KnownBytes.{Appends}
use Rattle.ft_base.specs.StreamState.{SinkState}
use Rattle.trace_replay.specs.declared.ended.Ended.{Ended}
use Rattle.trace_replay.specs.declared.ended.Ended.TheVariants as ended

-- this text was printed, and the sink did not fail
abbrev pub Adds : SinkState → SinkState → List ℕ → Type 0
Adds old new text = Appends old.taken new.taken text × (new.faults ≡ old.faults)

-- this text was printed. If the sink failed, it took a proper front of it. If memory ran out, nothing was printed
pub record Prints (old new : SinkState) (text : List ℕ) (result : Result (Unit {0}) Ended) : Type 0 where
  pub done : OnOk result (Adds old new text)
  pub part : IsErrOf result ended.Sink → (n : ℕ) × (n < length text) × Appends old.taken new.taken (take n text)
  pub none : IsErrOf result ended.Memory → Adds old new []
