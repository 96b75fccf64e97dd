-- Why an opening failed.
use Rattle.std.specs.Prelude.{◌≡◌, Bool, true, false, Result, Ok, Err, ⊤}
use Rattle.ft_base.specs.declared.geometry.Geometry.{Geometry}
use Rattle.cache_model.specs.declared.format.Seal.{Seal}
use Rattle.cache_model.specs.Loading.{Refusal}
use Rattle.cache_model.specs.Loading as loading
use Rattle.ft_media.specs.declared.media.MediaError.{MediaError}
use Rattle.ft_media.specs.declared.media.MediaError.TheVariants as device
use Rattle.op_log.specs.declared.error.OpenError.{OpenError}
use Rattle.op_log.specs.declared.error.OpenError.TheVariants.{NotFormatted, OtherGeometry, Damaged, FlashFault, DiskFault, PowerLost, OutOfMemory}

-- the flash failed
abbrev pub open_failed : {T : Type 0} → Result T OpenError → Bool
open_failed (Err FlashFault) = true
open_failed (Err e) = false
open_failed (Ok value) = false

-- power was lost
abbrev pub open_lost : {T : Type 0} → Result T OpenError → Bool
open_lost (Err PowerLost) = true
open_lost (Err e) = false
open_lost (Ok value) = false

-- the numbers of a seal that this geometry wants
abbrev pub seal_of : Geometry → Seal
seal_of g = record { p = g.p; c = g.c; l = g.l; j = g.j; size = g.size }

-- an error of loading is the one that loading is defined to give. A fault, a cut and out of memory come by themselves,
-- and the disk isn't asked
abbrev pub IsRefusal : {A : Type 0} → Geometry → OpenError → Result A Refusal → Type 0
IsRefusal g NotFormatted loads = loads ≡ Err loading.NotFormatted
IsRefusal g (OtherGeometry found wanted) loads = (loads ≡ Err (loading.OtherGeometry found)) × (wanted ≡ seal_of g)
IsRefusal g (Damaged block page) loads = loads ≡ Err (loading.Damaged (record { block = block; page = page }))
IsRefusal g FlashFault loads = ⊤
IsRefusal g DiskFault loads = ⊥
IsRefusal g PowerLost loads = ⊤
IsRefusal g OutOfMemory loads = ⊤

-- the error of an opening after a read of the flash that failed with this error
abbrev pub opening_refusal : MediaError → OpenError
opening_refusal device.Failed = FlashFault
opening_refusal device.PowerLost = PowerLost
opening_refusal device.OutOfMemory = OutOfMemory

-- reading pages of records may fail with this error: the pages may be damaged, but they are no seal, and the disk isn't
-- asked
abbrev pub IsOfPages : OpenError → Type 0
IsOfPages (Damaged block page) = ⊤
IsOfPages FlashFault = ⊤
IsOfPages PowerLost = ⊤
IsOfPages OutOfMemory = ⊤
IsOfPages NotFormatted = ⊥
IsOfPages (OtherGeometry found wanted) = ⊥
IsOfPages DiskFault = ⊥

-- the flash failed, or power was lost
abbrev pub IsOfFlash : OpenError → Type 0
IsOfFlash FlashFault = ⊤
IsOfFlash PowerLost = ⊤
IsOfFlash NotFormatted = ⊥
IsOfFlash (OtherGeometry found wanted) = ⊥
IsOfFlash (Damaged block page) = ⊥
IsOfFlash DiskFault = ⊥
IsOfFlash OutOfMemory = ⊥
