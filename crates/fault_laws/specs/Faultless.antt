-- What a call may answer if no device failed in it and no power was lost.
use Rattle.std.specs.Prelude.{◌≡◌, ◌⊎◌, ℕ, Result, IfErr, IsErrOf, ⊤}
use Rattle.ft_base.specs.Count.{Rose}
use Rattle.ft_base.specs.declared.geometry.Geometry.{Geometry}
use Rattle.ft_media.specs.State.{Faults}
use Rattle.ft_volume.specs.declared.volume.VolumeError.{VolumeError}
use Rattle.ft_volume.specs.declared.volume.VolumeError.TheVariants as volume
use Rattle.cache_model.specs.Loading.{Refusal}
use Rattle.op_log.specs.Refusals.{IsRefusal}
use Rattle.op_log.specs.declared.error.OpenError.{OpenError}
use Rattle.op_log.specs.declared.error.OpenError.TheVariants.{NotFormatted, OtherGeometry, Damaged, FlashFault, DiskFault, PowerLost, OutOfMemory}
use Rattle.ssc.specs.declared.error.SscError.{SscError}
use Rattle.ssc.specs.declared.error.SscError.TheVariants.{Full}

-- no count of faults rose, and no count of cuts; nor does one stand at its last value
pub record NoneRose (old new : Faults) : Type 0 where
  pub flash : Rose old.flash new.flash → ⊥
  pub disk : Rose old.disk new.disk → ⊥
  pub cuts : Rose old.cuts new.cuts → ⊥

-- a write was refused for the number of dirty groups
abbrev pub IsFull : {T : Type 0} → Result T SscError → Type 0
IsFull result = (n : ℕ) × (l : ℕ) × IsErrOf result (Full n l)

-- an opening was refused for what the flash is, and not by a device, by power or by memory
abbrev pub IsOfLoading : OpenError → Type 0
IsOfLoading NotFormatted = ⊤
IsOfLoading (OtherGeometry found wanted) = ⊤
IsOfLoading (Damaged block page) = ⊤
IsOfLoading FlashFault = ⊥
IsOfLoading DiskFault = ⊥
IsOfLoading PowerLost = ⊥
IsOfLoading OutOfMemory = ⊥

-- an opening is refused by memory, or because loading refuses this flash so
abbrev pub OpensUnlessLoading : {T A : Type 0} → Geometry → Result T OpenError → Result A Refusal → Type 0
OpensUnlessLoading g result loads = IfErr result (λ e. (e ≡ OutOfMemory) ⊎ (IsOfLoading e × IsRefusal g e loads))

-- a call of a volume is refused by memory, or for its address
abbrev pub ServesUnlessOutside : {T : Type 0} → Result T VolumeError → Type 0
ServesUnlessOutside result = IfErr result (λ e. (e ≡ volume.OutOfMemory) ⊎ (e ≡ volume.OutOfVolume))

-- a call of a volume is refused by memory alone
abbrev pub ServesUnlessMemory : {T : Type 0} → Result T VolumeError → Type 0
ServesUnlessMemory result = IfErr result (λ e. e ≡ volume.OutOfMemory)
