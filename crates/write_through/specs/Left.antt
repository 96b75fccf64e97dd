-- A volume that writes through, and the media that it leaves.
use Rattle.std.specs.Prelude.{◌≡◌, ◌<◌, ℕ, false, List, [], Result, IsErrOf}
use Rattle.ft_base.specs.Contents.{Contents}
use Rattle.ft_base.specs.PlainDisk.{BlockWrite}
use Rattle.ft_base.specs.declared.told.Mode.TheVariants.{Through}
use Rattle.ft_media.specs.State.{State}
use Rattle.ft_volume.specs.Volume.{Goes, VolumeState}
use Rattle.ft_volume.specs.declared.volume.VolumeError.{VolumeError}
use Rattle.ft_volume.specs.declared.volume.VolumeError.TheVariants.{OutOfVolume}
use Rattle.cached_disk.specs.Kept.{state_in}
use Rattle.cached_disk.specs.Kept as kept
use Rattle.write_through.specs.declared.volume.WriteThrough.{WriteThrough}

-- the state at this moment: no block waits to be written back
abbrev pub state_of : WriteThrough → VolumeState
state_of v = state_in [] v.disk

-- the contents are the ones that the volume left, and its cache writes through
pub record IsLeft (v : WriteThrough) (contents : Contents) : Type 0 where
  pub disk : kept.IsLeft v.disk contents
  pub mode : v.disk.mode ≡ Through

-- no write is owed: each is on the disk when it answers
abbrev pub owes : WriteThrough → Contents → List BlockWrite → Type 0
owes v contents owed = owed ≡ []

-- the volume is up, and the address is one of its own
pub record MayWrite (v : WriteThrough) (contents : Contents) (a : ℕ) : Type 0 where
  pub left : IsLeft v contents
  pub up : kept.is_down v.disk ≡ false
  pub lba : a < v.disk.options.geometry.size

-- a step of a write, and the state that it leaves, whatever it answers
pub record Steps (old new : WriteThrough) (before after : State) (result : Result (Unit {0}) VolumeError) : Type 0 where
  pub left : IsLeft new after.contents
  pub goes : Goes (state_of old) (state_of new) before after result
  pub within : IsErrOf result OutOfVolume → ⊥
