-- The state after a read that the disk failed: only the counts of faults change.
use Rattle.std.proofs.Common.{◌≡◌, Bool, true, false, Err, refl, sym, ◌∙◌, ap, subst, arith}
use Rattle.std.specs.Prelude.{◌≢◌, None}
use Rattle.std.proofs.lemmas.Bool.{false≢true}
use Rattle.ft_base.specs.Contents.{Contents}
use Rattle.ft_media.specs.Media.{DiskCause, ReadPower}
use Rattle.ft_media.specs.Passes.{Passes}
use Rattle.ft_media.specs.State.{State, failed, lost}
use Rattle.ft_media.specs.declared.media.MediaError.{MediaError}
use Rattle.ft_media.specs.declared.media.MediaError.TheVariants.{Failed, PowerLost, OutOfMemory}
use Rattle.ft_volume.specs.Volume.{Goes, HasCause, VolumeState, volume_lost}
use Rattle.ft_volume.specs.declared.volume.VolumeError.{VolumeError}
use Rattle.ft_volume.specs.declared.volume.VolumeError.TheVariants as volume
use Rattle.cached_disk.specs.Errors.{disk_error}

module _ (before after : State) (old new : VolumeState) (told : new.told ≡ old.told) (up : new.down ≡ false) (contents : after.contents ≡ before.contents) where
  abbrev Refuses : VolumeError → Type 0
  Refuses r = Goes {T = Unit {0}} old new before after (Err r)

  refuses : (r : VolumeError) (gone : Bool) → ReadPower before.power after.power gone → (r ≡ volume.PowerLost → gone ≡ true) → volume_lost {T = Unit {0}} (Err r) ≡ gone → HasCause {T = Unit {0}} before.faults after.faults (Err r) → Passes before after gone → Refuses r
  refuses r gone power cut is cause passes = record {
    told = told;
    up = tt;
    lost = λ on at. absurd (false≢true (sym (power.on on) ∙ cut (let same_error : r ≡ volume.PowerLost = cc in same_error)));
    memory = λ none was. up;
    ready = λ now b there. subst (λ (x : Contents). x.flash.next b ≢ None) (sym contents) there;
    disk = λ fault was now. ap (λ (x : Contents). x.disk) contents;
    cause = cause;
    passes = subst (λ (b : Bool). Passes before after b) (sym is) passes;
  }

  pub goes_refused : (e : MediaError) (r : VolumeError) → r ≡ disk_error e → DiskCause before.faults after.faults (failed {T = Unit {0}} (Err e)) (lost {T = Unit {0}} (Err e)) → (e ≡ OutOfMemory → ⊥)
      → ReadPower before.power after.power (lost {T = Unit {0}} (Err e)) → Passes before after (lost {T = Unit {0}} (Err e)) → Refuses r
  goes_refused Failed r is cause memory power passes = subst Refuses (sym is) (refuses volume.DiskFault false power (λ no. absurd (cc)) refl (record {
    flash = let x = cause.flash in omega (arith, x);
    disk = cause.disk;
    cuts = cause.cuts;
    flash_fault = λ f. absurd (cc);
    disk_fault = λ f. cause.failed refl;
    power_lost = λ f. absurd (cc);
    none = λ no. absurd (cc);
  }) passes)
  goes_refused PowerLost r is cause memory power passes = subst Refuses (sym is) (refuses volume.PowerLost true power (λ at. refl) refl (record {
    flash = let x = cause.flash in omega (arith, x);
    disk = cause.disk;
    cuts = cause.cuts;
    flash_fault = λ f. absurd (cc);
    disk_fault = λ f. absurd (cc);
    power_lost = λ f. cause.power_lost refl;
    none = λ no. absurd (cc);
  }) passes)
  goes_refused OutOfMemory r is cause memory power passes = absurd (memory refl)
