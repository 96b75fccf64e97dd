-- With power off after a device write nothing is ready, and each disk block has one value.
use Rattle.std.proofs.Common.{◌≡◌, ℕ, ◌⊎◌, inl, inr, refl, sym, ◌∙◌, ap, subst, Bool, false}
use Rattle.std.proofs.lemmas.Bool.{both_ways}
use Rattle.ft_base.specs.declared.power.Outcome.{Outcome}
use Rattle.ft_base.specs.Contents.{Flash, Values}
use Rattle.ft_media.specs.State.{Power}
use Rattle.device_calls.specs.declared.ending.Current.{Current}
use Rattle.device_calls.specs.declared.ending.Ending.{Ending}
use Rattle.device_calls.specs.declared.ending.Ending.TheVariants as ending
use Rattle.device_calls.specs.Calls.{ending_of}
use Rattle.mem_rig.specs.Off.{IsUnready, IsSettled}
use Rattle.mem_rig.specs.Power.{current_of, power_after_write, PowerLeft}
use Rattle.mem_rig.proofs.PowerLemmas.{power_left}

-- power is off after a device write that was cut, and after a device write with power off
abbrev WasLost : Ending → Power → Type 0
WasLost how old = ((outcome : Outcome) × (how ≡ ending.Cut outcome)) ⊎ ((how ≡ ending.Off) × (old.on ≡ false))

was_lost : (how : Ending) (old new : Power) → PowerLeft how old new → new.on ≡ false → WasLost how old
was_lost ending.Done old new left off = absurd (both_ways new.on off left.on)
was_lost ending.Failed old new left off = absurd (both_ways new.on off left.on)
was_lost (ending.Cut outcome) old new left off = inl (outcome, refl)
was_lost ending.Off old new left off = inr (refl, left.0)

pub left_by : (how : Ending) (current : Current) (listed : Bool) (old new : Power) → how ≡ ending_of current listed → current ≡ current_of old → new ≡ power_after_write old → PowerLeft how old new
left_by how current listed old new is was after =
    let ends : ending_of (current_of old) listed ≡ how = sym (is ∙ ap (λ c. ending_of c listed) was) in
    subst (λ p. PowerLeft how old p) (sym after) (subst (λ h. PowerLeft h old (power_after_write old)) ends (power_left old listed))

module _ (how : Ending) (current : Current) (listed : Bool) (old new : Power) (is : how ≡ ending_of current listed) (was : current ≡ current_of old) (after : new ≡ power_after_write old) where
  lost : new.on ≡ false → WasLost how old
  lost off = was_lost how old new (left_by how current listed old new is was after) off

  pub unready_after : (step : Ending → Flash) (flash left : Flash) → ((outcome : Outcome) → IsUnready (step (ending.Cut outcome))) → step ending.Off ≡ flash → left ≡ step how → (old.on ≡ false → IsUnready flash) → new.on ≡ false → IsUnready left
  unready_after step flash left cut dark ends before off b = ap (λ (f : Flash). f.next b) ends ∙ elim (lost off) [
    | inl c ↦ ap (λ h. (step h).next b) c.1 ∙ cut c.0 b
    | inr o ↦ ap (λ h. (step h).next b) o.0 ∙ ap (λ (f : Flash). f.next b) dark ∙ before o.1 b
  ]

  pub settled_after : (step : Ending → ℕ → Values) (disk left : ℕ → Values) → ((outcome : Outcome) → IsSettled (step (ending.Cut outcome))) → step ending.Off ≡ disk → left ≡ step how → (old.on ≡ false → IsSettled disk) → new.on ≡ false → IsSettled left
  settled_after step disk left cut dark ends before off lba = ap (λ (d : ℕ → Values). (d lba).earlier) ends ∙ elim (lost off) [
    | inl c ↦ ap (λ h. (step h lba).earlier) c.1 ∙ cut c.0 lba
    | inr o ↦ ap (λ h. (step h lba).earlier) o.0 ∙ ap (λ (d : ℕ → Values). (d lba).earlier) dark ∙ before o.1 lba
  ]
