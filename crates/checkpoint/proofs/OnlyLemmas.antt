-- An error that is handed on by a call that drives only the flash.
use Rattle.std.proofs.Common.{◌≡◌, Result, Err, false, sym, subst}
use Rattle.ft_media.specs.declared.media.MediaError.{MediaError}
use Rattle.ft_media.specs.State.{State}
use Rattle.ft_media.specs.Drives.{DrivesFlash, OnlyDrives}
use Rattle.ft_media.proofs.DrivesLemmas.{only_then, only_err}

-- the error of the first call
pub only_refused : {T U : Type 0} (a b : State) (e : MediaError) (r : Result T MediaError) → OnlyDrives {T = U} a b (Err e) → r ≡ Err e → OnlyDrives a b r
only_refused a b e r only is = subst (λ (q : Result _ MediaError). OnlyDrives a b q) (sym is) (only_err a b e only)

-- the error of a call after another call, which did not fail
pub only_failed : {T U : Type 0} (a b c : State) (e : MediaError) (r : Result T MediaError) → DrivesFlash a b false false → OnlyDrives {T = U} b c (Err e) → r ≡ Err e → OnlyDrives a c r
only_failed a b c e r first then is = only_then a b c r first (only_refused b c e r then is)
