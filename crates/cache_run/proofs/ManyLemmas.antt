-- A run over several disks that share a new volume.
use Rattle.std.proofs.Common.{◌≡◌, ◌/◌, ℕ, List, Result}
use Rattle.ft_base.specs.Contents.{Contents}
use Rattle.ft_base.specs.PlainDisk.{BlockWrite}
use Rattle.ft_base.specs.StreamState.{SinkState, SourceState}
use Rattle.ft_base.specs.Told.{Told}
use Rattle.ft_base.specs.declared.told.Mode.{Mode}
use Rattle.cache_model.specs.Stands.{ImageStandsFor}
use Rattle.ft_media.specs.State.{State}
use Rattle.ft_volume.specs.Opening.{ImageIs}
use Rattle.ft_volume.specs.Volume.{VolumeState, told_for}
use Rattle.ft_volume.specs.declared.options.Options.{Options}
use Rattle.trace_replay.specs.declared.ended.Ended.{Ended}
use Rattle.many_disks.specs.Ends.{EndsMany}
use Rattle.many_disks.specs.Readings.{ReadsMany}
use Rattle.many_disks.specs.Told.{TellsMany, TellsManyPart}
use Rattle.cache_run.specs.Begun.{IsNewVolume}
use Rattle.cache_run.specs.Fitted.{fitted_for}
use Rattle.cache_run.proofs.BeginLemmas.{ends_sized}

module _ (mode kind : Mode) (options : Options) (is : mode ≡ kind) {owns : Contents → Type 0} {owes : Contents → List BlockWrite → Type 0} {v : VolumeState} {old begun : State} (new : IsNewVolume (told_for kind options) owns owes v old begun)
    (u : Told) (stays : u ≡ v.told) (disks : ℕ) (a z : SourceState) (x y : SinkState) (now : State) where
  pub ends_over : (r : Result (Unit {0}) Ended)
      → EndsMany v.told disks a z x y (ImageIs u) begun now r
      → EndsMany (told_for mode options) disks a z x y (ImageStandsFor options.geometry) (fitted_for options.geometry old) now r
  ends_over = ends_sized mode kind options is new u stays (λ size. ReadsMany (size / disks) disks a z) (λ size. TellsMany (size / disks) disks a x y) (λ size. TellsManyPart (size / disks) disks a x y) now
