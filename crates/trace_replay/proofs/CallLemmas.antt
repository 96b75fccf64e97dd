-- What a call did to a volume that owes nothing, and what is left when the run goes on after it.
use Rattle.std.proofs.Common.{◌≡◌, ◌≢◌, inl, inr, Bool, true, List, [], ◌∷◌, Result, Err, IsErrOf, refl, sym, ap, ◌∙◌, subst}
use Rattle.ft_base.specs.Contents.{Contents, Image}
use Rattle.ft_base.specs.PlainDisk.{BlockWrite, PlainDisk}
use Rattle.ft_base.specs.Told.{Told}
use Rattle.ft_base.specs.declared.told.Ack.TheVariants as ack
use Rattle.ft_media.specs.Passes.{Passes}
use Rattle.ft_media.specs.Rig.{powered}
use Rattle.ft_media.specs.State.{State}
use Rattle.ft_volume.specs.Volume.{Call, DoneOwing, Fixes, Goes, VolumeState, WasOne, blames_media, owing, volume_lost}
use Rattle.ft_volume.specs.Standing.{StandFor}
use Rattle.ft_volume.specs.declared.volume.VolumeError.{VolumeError}
use Rattle.ft_volume.specs.declared.volume.VolumeError.TheVariants as volume
use Rattle.ft_volume.proofs.DoneLemmas.{one_disk}
use Rattle.trace_replay.proofs.Words.{lost_by}
use Rattle.trace_replay.proofs.WentLemmas.{WasCall, refused}

-- each write is on the media when it answers
pub one_call : {T : Type 0} {was is : List BlockWrite → Type 0} (stands : Told → Image → PlainDisk → Type 0) (call : Call) (old new : VolumeState) (before after : Contents) (result : Result T VolumeError) (d : PlainDisk)
    → (owed : List BlockWrite) × was owed
    → ((owed : List BlockWrite) → old.told.ack ≡ ack.Write → was owed → owed ≡ []) → ((owed : List BlockWrite) → new.told.ack ≡ ack.Write → is owed → owed ≡ [])
    → old.told.ack ≡ ack.Write → new.told ≡ old.told
    → DoneOwing was is stands call old new before after result → StandFor (stands old.told) before d → WasOne (stands new.told) call after result d
one_call stands call old new before after result d some none none_new at_write told done stood =
    let at = done some.0 some.1 in
    one_disk stands call (owing old some.0) (owing new at.0) before after result d (none some.0 at_write some.1) (none_new at.0 (ap (λ (t : Told). t.ack) told ∙ at_write) at.1) at.2 stood

lost_at : (T : Type 0) (e : VolumeError) → volume_lost {T = T} (Err e) ≡ lost_by e
lost_at T volume.FlashFault = refl
lost_at T volume.DiskFault = refl
lost_at T volume.PowerLost = refl
lost_at T volume.OutOfMemory = refl
lost_at T volume.OutOfVolume = refl

blames_at : (T : Type 0) (e : VolumeError) → blames_media {T = T} (Err e) ≡ blames_media (refused e)
blames_at T volume.FlashFault = refl
blames_at T volume.DiskFault = refl
blames_at T volume.PowerLost = refl
blames_at T volume.OutOfMemory = refl
blames_at T volume.OutOfVolume = refl

err_at : (T : Type 0) (e x : VolumeError) → IsErrOf (refused e) x → IsErrOf {T = T} (Err e) x
err_at T e x is = let same : e ≡ x = cc in ap Err same

-- what a call that ended with an error leaves
pub was_call : {T : Type 0} (old new : VolumeState) (before after : State) (e : VolumeError) → before.power.on ≡ true → Goes {T = T} old new before after (Err e) → WasCall before after e
was_call {T = T} old new before after e on goes = record {
  on = on;
  passes = subst (λ (l : Bool). Passes before after l) (lost_at T e) goes.passes;
  cause = record {
    flash = goes.cause.flash;
    disk = goes.cause.disk;
    cuts = goes.cause.cuts;
    flash_fault = λ is. goes.cause.flash_fault (err_at T e volume.FlashFault is);
    disk_fault = λ is. goes.cause.disk_fault (err_at T e volume.DiskFault is);
    power_lost = λ is. goes.cause.power_lost (err_at T e volume.PowerLost is);
    none = λ no. goes.cause.none (blames_at T e ∙ no);
  };
}

-- whatever is done after a call that ended with an error keeps the contents
pub still_contents : {B : Type 0} (error : VolumeError) (before after : State) → (error ≡ volume.PowerLost → after ≡ powered before) → (error ≢ volume.PowerLost → (after ≡ before) × B) → before.contents ≡ after.contents
still_contents volume.PowerLost before after lost same = sym (ap (λ (s : State). s.contents) (lost cc))
still_contents volume.FlashFault before after lost same = let is = same (λ e. cc) in sym (ap (λ (s : State). s.contents) is.0)
still_contents volume.DiskFault before after lost same = let is = same (λ e. cc) in sym (ap (λ (s : State). s.contents) is.0)
still_contents volume.OutOfMemory before after lost same = let is = same (λ e. cc) in sym (ap (λ (s : State). s.contents) is.0)
still_contents volume.OutOfVolume before after lost same = let is = same (λ e. cc) in sym (ap (λ (s : State). s.contents) is.0)

-- a cut leaves the plain disk
pub fixes_one : (stands : Told → Image → PlainDisk → Type 0) (old new : VolumeState) (before after : Contents) (d : PlainDisk) → Fixes stands old new before after → StandFor (stands old.told) before d → StandFor (stands new.told) after d
fixes_one stands old new before after d fixes stood = elim (fixes (d ∷ []) (λ x now. inl (stood x now))) [ inl is ↦ is | inr none ↦ absurd none ]
