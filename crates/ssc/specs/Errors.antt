-- Why a command failed.
use Rattle.std.specs.Prelude.{Bool, true, false, Result, Ok, Err}
use Rattle.ft_media.specs.declared.media.MediaError.{MediaError}
use Rattle.ft_media.specs.declared.media.MediaError.TheVariants as media
use Rattle.ssc.specs.declared.error.SscError.{SscError}
use Rattle.ssc.specs.declared.error.SscError.TheVariants.{FlashFault, PowerLost, OutOfMemory}

-- the flash failed
abbrev pub ssc_failed : {T : Type 0} → Result T SscError → Bool
ssc_failed (Err FlashFault) = true
ssc_failed (Err e) = false
ssc_failed (Ok value) = false

-- power was lost
abbrev pub ssc_lost : {T : Type 0} → Result T SscError → Bool
ssc_lost (Err PowerLost) = true
ssc_lost (Err e) = false
ssc_lost (Ok value) = false

-- the flash failed or power was lost, so the cache is given up
abbrev pub stops : {T : Type 0} → Result T SscError → Bool
stops (Err FlashFault) = true
stops (Err PowerLost) = true
stops (Err e) = false
stops (Ok value) = false

abbrev pub of_media : MediaError → SscError
of_media media.Failed = FlashFault
of_media media.PowerLost = PowerLost
of_media media.OutOfMemory = OutOfMemory
