-- A call that writes nothing, of a volume that owes nothing: nothing is owed after it, and the plain disk stays.
use Rattle.std.proofs.Common.{◌≡◌, inl, inr, ℕ, zero, suc, true, List, [], ◌∷◌, drop, Result, Ok, Err, IsErrOf, refl, ap, ◌∙◌, subst}
use Rattle.std.proofs.lemmas.Bool.{cases_Bool}
use Rattle.ft_base.specs.Contents.{Contents, Image}
use Rattle.ft_base.specs.PlainDisk.{BlockWrite, PlainDisk}
use Rattle.ft_base.specs.Told.{Told}
use Rattle.ft_volume.proofs.DoneLemmas.{one_disk}
use Rattle.ft_volume.specs.Standing.{StandFor}
use Rattle.ft_volume.specs.Volume.{Call, Done, DoneOwing, IsUnopened, LeavesOwed, VolumeState, WasDone, WasOne, owing, writes_of}
use Rattle.ft_volume.specs.declared.volume.VolumeError.{VolumeError}
use Rattle.ft_volume.specs.declared.volume.VolumeError.TheVariants.{OutOfVolume}

drop_none : (k : ℕ) → drop {A = BlockWrite} k [] ≡ []
drop_none zero = refl
drop_none (suc k) = refl

-- of no writes none is owed
left_none : (stands : Image → PlainDisk → Type 0) (after : Contents) (left all : List BlockWrite) (base : PlainDisk) → all ≡ [] → LeavesOwed stands after left all base → left ≡ []
left_none stands after left all base none leaves = leaves.owes ∙ ap (drop leaves.kept) none ∙ drop_none leaves.kept

module _ {T : Type 0} (stands : Told → Image → PlainDisk → Type 0) (call : Call) (old new : VolumeState) (before after : Contents) (left : List BlockWrite) (d : PlainDisk) (silent : writes_of call ≡ [])
    (down : new.down ≡ true → left ≡ []) where
  was_none : (result : Result T VolumeError) → WasDone stands call (owing old []) (owing new left) after result d → left ≡ []
  was_none (Ok v) was = left_none (stands new.told) after left (writes_of call) d silent was.done
  was_none (Err e) was = elim (cases_Bool new.down) [ inl is ↦ down is | inr up ↦ left_none (stands new.told) after left [] d refl (was.up up) ]

  un_none : (result : Result T VolumeError) → (IsErrOf result OutOfVolume → ⊥) → IsUnopened stands (owing old []) (owing new left) after result (d ∷ []) → left ≡ []
  un_none result within un = down (un.inside within).1

  none_left : (result : Result T VolumeError) → (IsErrOf result OutOfVolume → ⊥) → Done stands call (owing old []) (owing new left) before after result → StandFor (stands old.told) before d → left ≡ []
  none_left result within done stood = elim (done (d ∷ []) (λ x now. inl (stood x now))) [
    | inl any ↦ elim any [ inl was ↦ was_none result was | inr none ↦ absurd none ]
    | inr un ↦ un_none result within un
  ]

pub record StaysNone {T : Type 0} (is : List BlockWrite → Type 0) (stands : Image → PlainDisk → Type 0) (call : Call) (after : Contents) (result : Result T VolumeError) (d : PlainDisk) : Type 0 where
  pub owed : is []
  pub one : WasOne stands call after result d

pub stays_none : {T : Type 0} (was is : List BlockWrite → Type 0) (stands : Told → Image → PlainDisk → Type 0) (call : Call) (old new : VolumeState) (before after : Contents) (result : Result T VolumeError) (d : PlainDisk) → writes_of call ≡ []
    → ((owed : List BlockWrite) → new.down ≡ true → is owed → owed ≡ []) → (IsErrOf result OutOfVolume → ⊥) → was [] → DoneOwing was is stands call old new before after result → StandFor (stands old.told) before d
    → StaysNone is (stands new.told) call after result d
stays_none {T = T} was is stands call old new before after result d silent down within nothing done stood =
    let at = done [] nothing in
    let none : at.0 ≡ [] = none_left stands call old new before after at.0 d silent (λ now. down at.0 now at.1) result within at.2 stood in
    record {
      owed = subst is none at.1;
      one = one_disk stands call (owing old []) (owing new []) before after result d refl refl (subst (λ (ws : List BlockWrite). Done stands call (owing old []) (owing new ws) before after result) none at.2) stood;
    }
