-- A volume that writes back, and the media that it leaves.
use Rattle.std.specs.Prelude.{◌≡◌, ◌<◌, ◌/◌, ◌==◌, not, ℕ, true, false, List, [], ◌∷◌, filter, Result, IsErrOf}
use Rattle.std.specs.List.{list_any}
use Rattle.ft_base.specs.Contents.{Contents}
use Rattle.ft_base.specs.declared.geometry.Geometry.{Geometry}
use Rattle.ft_base.specs.PlainDisk.{BlockWrite, PlainDisk}
use Rattle.ft_base.specs.declared.told.Ack.TheVariants.{Write as AtWrite}
use Rattle.ft_base.specs.declared.told.Mode.TheVariants.{Back}
use Rattle.ft_media.specs.State.{State}
use Rattle.ft_volume.specs.Opening.{ImageIs}
use Rattle.ft_volume.specs.Standing.{StandFor}
use Rattle.ft_volume.specs.Volume.{Call, FaultDowns, Goes, VolumeState, WasDone, owing}
use Rattle.ft_volume.specs.declared.volume.VolumeError.{VolumeError}
use Rattle.ft_volume.specs.declared.volume.VolumeError.TheVariants.{OutOfVolume}
use Rattle.dirty_table.specs.Groups.{Groups, has}
use Rattle.cached_disk.specs.declared.disk.CachedDisk.{CachedDisk}
use Rattle.cached_disk.specs.Kept.{Owes, dirty_of, state_in, told_of}
use Rattle.cached_disk.specs.Kept as kept
use Rattle.write_back.specs.declared.volume.WriteBack.{WriteBack}

-- the state at this moment
abbrev pub state_of : WriteBack → VolumeState
state_of v = state_in v.dirty.order v.disk

-- each number of the list is there once
abbrev pub AreApart : List ℕ → Type 0
AreApart [] = Unit {0}
AreApart (n ∷ ns) = (list_any (λ k. k == n) ns ≡ false) × AreApart ns

-- the table has distinct groups, with room for the most that there may be
pub record IsDirtyTable (g : Geometry) (table : Groups) : Type 0 where
  pub limit : table.limit ≡ g.c
  pub apart : AreApart table.order

-- a group is in the order exactly when one of these addresses is its own
pub record IsExact (p : ℕ) (order lbas : List ℕ) : Type 0 where
  pub all : (a : ℕ) → list_any (λ k. k == a) lbas ≡ true → has (a / p) order ≡ true
  pub only : (n : ℕ) → has n order ≡ true → (a : ℕ) × (list_any (λ k. k == a) lbas ≡ true) × (a / p ≡ n)

-- the contents are the ones that the volume left; while it is up its table has exactly the dirty groups
pub record IsLeft (v : WriteBack) (contents : Contents) : Type 0 where
  pub disk : kept.IsLeft v.disk contents
  pub mode : v.disk.mode ≡ Back
  pub table : IsDirtyTable v.disk.options.geometry v.dirty
  pub exact : kept.is_down v.disk ≡ false → IsExact v.disk.options.geometry.p v.dirty.order (dirty_of v.disk)

-- the writes that are owed: the ones that wait in its cache
abbrev pub owes : WriteBack → Contents → List BlockWrite → Type 0
owes v contents owed = Owes v.disk contents owed

-- what a call does to the plain disk, whichever writes were owed
abbrev pub DoesOwing : Call → WriteBack → WriteBack → Contents → Contents → Result (Unit {0}) VolumeError → Type 0
DoesOwing call old new before after result = (owed : List BlockWrite) → Owes old.disk before owed
    → (left : List BlockWrite) × Owes new.disk after left × ((base : PlainDisk) → StandFor (ImageIs (state_of old).told) before base
    → WasDone ImageIs call (owing (state_of old) owed) (owing (state_of new) left) after result base)

-- the addresses of a group among these, and the addresses of the others
abbrev pub in_group : ℕ → ℕ → List ℕ → List ℕ
in_group p n lbas = filter (λ a. a / p == n) lbas

abbrev pub out_of_group : ℕ → ℕ → List ℕ → List ℕ
out_of_group p n lbas = filter (λ a. not (a / p == n)) lbas

-- the volume is up, and the address is one of its own
pub record MayWrite (v : WriteBack) (contents : Contents) (a : ℕ) : Type 0 where
  pub left : IsLeft v contents
  pub up : kept.is_down v.disk ≡ false
  pub lba : a < v.disk.options.geometry.size

-- a step that failed while the volume stays up: the same blocks are dirty, and nothing has changed if each write is on
-- the media when it answers
pub record StaysDirty (old new : CachedDisk) : Type 0 where
  pub dirty : dirty_of new ≡ dirty_of old
  pub same : (told_of old).ack ≡ AtWrite → new ≡ old

pub record StaysAs (old new : WriteBack) : Type 0 where
  pub table : new.dirty ≡ old.dirty
  pub disk : StaysDirty old.disk new.disk

-- a step over the volume, and the state that it leaves, whatever it answers
pub record Steps {T : Type 0} (old new : WriteBack) (before after : State) (result : Result T VolumeError) : Type 0 where
  pub left : IsLeft new after.contents
  pub goes : Goes (state_of old) (state_of new) before after result
  pub faulted : FaultDowns result (kept.is_down new.disk)
  pub within : IsErrOf result OutOfVolume → ⊥
