-- What is known of the source when a trace was run to its end.
use Rattle.std.proofs.Common.{◌≡◌, ℕ, Bool, true, List, Option, Result, Ok, Err, OnOk}
use Rattle.cache_model.specs.Records.{Entries}
use Rattle.ft_base.specs.Contents.{Image}
use Rattle.ft_base.specs.PlainDisk.{PlainDisk}
use Rattle.ft_base.specs.StreamState.{SinkState}
use Rattle.ft_base.specs.Told.{Told}
use Rattle.ft_base.specs.declared.block.Page.{Page}
use Rattle.ft_base.specs.declared.block.Place.{Place}
use Rattle.ft_media.specs.State.{State}
use Rattle.trace_model.specs.declared.answer.Answer.{Answer}
use Rattle.trace_model.specs.declared.ran.Ran.{Ran}
use Rattle.trace_model.specs.Readings.{Reading}
use Rattle.trace_replay.specs.Theorem.{EndsAs}
use Rattle.trace_replay.specs.declared.ended.Ended.{Ended}
use Rattle.cache_run.specs.Costed.{EndsCost}
use Rattle.cache_run.specs.Inspected.{EndsInspected}

module _ {A : Type 0} (o : Told) (reads : ℕ → List Reading → Bool → Type 0) (found : (n : ℕ) (all : List Reading) → reads n all true → A) (stands : Image → PlainDisk → Type 0) (first now : State) where
  pub end_run : (says : List Ran → List Answer → Type 0) (short : List Ran → List Answer → Option Answer → Type 0) (r : Result (Unit {0}) Ended) → EndsAs o reads says short stands first now r → OnOk r A
  end_run says short (Ok done) ends = found _ _ ends.trace
  end_run says short (Err e) ends = tt

  pub end_cost : (x y : SinkState) (r : Result (Unit {0}) Ended) → EndsCost o reads x y stands first now r → OnOk r A
  end_cost x y (Ok done) ends = found _ _ ends.trace
  end_cost x y (Err e) ends = tt

  pub end_inspected : (loads : (Place → Page) → Entries → Type 0) (x y : SinkState) (r : Result (Unit {0}) Ended) → EndsInspected o reads loads x y stands first now r → OnOk r A
  end_inspected loads x y (Ok done) ends = found _ _ ends.whole.trace
  end_inspected loads x y (Err e) ends = tt
