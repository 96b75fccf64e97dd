-- What a rig with parity counted since it was made, and what the rig beneath did.
use Rattle.std.specs.Prelude.{◌≡◌, ◌+◌, ◌≤◌, ℕ, min, Bool, true}
use Rattle.ft_base.specs.Count.{Rose, last_count}
use Rattle.ft_media.specs.State.{Faults}
use Rattle.parity_media.specs.declared.tally.Tally.{Tally}
use Rattle.parity_media.specs.Kept.{failed_of, cuts_of}

-- a count that began so rose at least so often, or is at its last value
abbrev pub RoseSince : ℕ → ℕ → ℕ → Type 0
RoseSince start many now = min (start + many) last_count ≤ now

-- each fault that is counted was counted beneath, where the counts began so
pub record CountedBeneath (first_flash first_cuts : ℕ) (tally : Tally) (faults : Faults) : Type 0 where
  pub flash : RoseSince first_flash (failed_of tally) faults.flash
  pub cuts : RoseSince first_cuts (cuts_of tally) faults.cuts

-- a fault of the flash and a cut that are answered were counted, and no count falls
pub record TellsFaults (old new : Faults) (was_failed was_lost : Bool) : Type 0 where
  pub flash : old.flash ≤ new.flash
  pub cuts : old.cuts ≤ new.cuts
  pub failed : was_failed ≡ true → Rose old.flash new.flash
  pub power_lost : was_lost ≡ true → Rose old.cuts new.cuts
