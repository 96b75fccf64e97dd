-- The faults that a rig with parity counts are counted beneath.
use Rattle.std.proofs.Common.{◌≡◌, ◌≤◌, ℕ, Bool, true, false, refl, arith}
use Rattle.ft_base.specs.Count.{Rose}
use Rattle.ft_media.specs.State.{Faults}
use Rattle.ft_media.specs.Media.{DiskCause, FlashCause}
use Rattle.parity_media.specs.declared.tally.Tally.{Tally}
use Rattle.parity_media.specs.Kept.{failed_of, cuts_of, counted_if}
use Rattle.parity_media.specs.Since.{CountedBeneath, RoseSince, TellsFaults}

-- ---- what a call tells

pub faults_told : (a b : Faults) (f l : Bool) → FlashCause a b f l → TellsFaults a b f l
faults_told a b f l cause = record { flash = cause.flash; cuts = cause.cuts; failed = cause.failed; power_lost = cause.power_lost }

-- one call after another tells what the second does
pub faults_then : (a b c : Faults) (f l g m : Bool) → TellsFaults a b f l → TellsFaults b c g m → TellsFaults a c g m
faults_then a b c f l g m first then =
    let flash = first.flash in
    let cuts = first.cuts in
    record {
      flash = let later = then.flash in omega (arith, flash, later);
      cuts = let later = then.cuts in omega (arith, cuts, later);
      failed = λ yes. let rose = then.failed yes in omega (arith, flash, rose);
      power_lost = λ yes. let rose = then.power_lost yes in omega (arith, cuts, rose);
    }

-- ---- what is counted

rose_on : (t : Bool) (start many before after : ℕ) → RoseSince start many before → before ≤ after → (t ≡ true → Rose before after) → RoseSince start (counted_if t many) after
rose_on true start many before after was later rose = let r = rose refl in omega (arith, was, r)
rose_on false start many before after was later rose = omega (arith, was, later)

module _ (first_flash first_cuts : ℕ) (a b : Tally) (x y : Faults) (was : CountedBeneath first_flash first_cuts a x) where
  -- a call of the flash
  pub counted_flash : (f l : Bool) → failed_of b ≡ counted_if f (failed_of a) → cuts_of b ≡ counted_if l (cuts_of a) → TellsFaults x y f l → CountedBeneath first_flash first_cuts b y
  counted_flash f l failed lost tells = record {
    flash = rw failed (rose_on f first_flash (failed_of a) x.flash y.flash was.flash tells.flash tells.failed);
    cuts = rw lost (rose_on l first_cuts (cuts_of a) x.cuts y.cuts was.cuts tells.cuts tells.power_lost);
  }

  -- a call of the disk
  pub counted_disk : (f l : Bool) → failed_of b ≡ failed_of a → cuts_of b ≡ counted_if l (cuts_of a) → DiskCause x y f l → CountedBeneath first_flash first_cuts b y
  counted_disk f l failed lost cause = record {
    flash = let same = cause.flash in rw failed (rw same was.flash);
    cuts = rw lost (rose_on l first_cuts (cuts_of a) x.cuts y.cuts was.cuts cause.cuts cause.power_lost);
  }
