-- How the front stop counts device writes.
use Rattle.std.specs.Prelude.{◌≡◌, ◌≢◌, ℕ, zero, suc, ◌+◌, ◌-◌, List, [], ◌∷◌, ◌++◌, true, false, if◌then◌else◌}
use Rattle.ft_base.specs.declared.power.Outcome.{Outcome}
use Rattle.ft_base.specs.declared.power.Stop.{Stop}
use Rattle.ft_media.specs.State.{Power}
use Rattle.device_calls.specs.declared.ending.Current.{Current}
use Rattle.device_calls.specs.declared.ending.Current.TheVariants as current
use Rattle.device_calls.specs.declared.ending.Ending.{Ending}
use Rattle.device_calls.specs.declared.ending.Ending.TheVariants as ending

-- how many device writes can be done before the front stop cuts one, when the stop becomes the front
abbrev pub rest_at_front : List Stop → ℕ
rest_at_front [] = 0
rest_at_front (front ∷ later) = front.after - 1

-- the current during a device write: the front stop falls due if no device write can be done before it
abbrev pub due : List Stop → ℕ → Current
due [] rest = current.On
due (front ∷ later) zero = current.Stops front.outcome
due (front ∷ later) (suc rest) = current.On

abbrev pub current_of : Power → Current
current_of power = if power.on then due power.stops power.rest else current.Off

-- power after a device write: the front stop counts it; if the stop falls due, power is off and the stop is gone
abbrev pub counted : List Stop → ℕ → Power
counted [] rest = record { on = true; stops = []; rest = rest }
counted (front ∷ later) zero = record { on = false; stops = later; rest = rest_at_front later }
counted (front ∷ later) (suc rest) = record { on = true; stops = front ∷ later; rest = rest }

abbrev pub power_after_write : Power → Power
power_after_write power = if power.on then counted power.stops power.rest else power

-- power after a stop was put at the end of the queue
abbrev pub rest_after_arm : List Stop → ℕ → ℕ → ℕ
rest_after_arm [] rest after = after - 1
rest_after_arm (front ∷ later) rest after = rest

abbrev pub power_after_arm : Power → ℕ → Outcome → Power
power_after_arm power after outcome = record {
  on = power.on;
  stops = power.stops ++ (record { after = after; outcome = outcome }) ∷ [];
  rest = rest_after_arm power.stops power.rest after;
}

-- the front stop counted a device write that it does not cut
pub record WasCounted (old new : Power) : Type 0 where
  pub was_on : old.on ≡ true
  pub on : new.on ≡ true
  pub stops : new.stops ≡ old.stops
  pub rest : old.stops ≢ [] → new.rest + 1 ≡ old.rest

-- the front stop cut a device write, and is gone
pub record FellDue (old new : Power) (left : Outcome) : Type 0 where
  pub was_on : old.on ≡ true
  pub on : new.on ≡ false
  pub front : Stop
  pub stops : old.stops ≡ front ∷ new.stops
  pub outcome : front.outcome ≡ left
  pub due : old.rest ≡ 0
  pub rest : new.rest ≡ rest_at_front new.stops

-- power after a device write with this ending
abbrev pub PowerLeft : Ending → Power → Power → Type 0
PowerLeft ending.Done old new = WasCounted old new
PowerLeft ending.Failed old new = WasCounted old new
PowerLeft (ending.Cut outcome) old new = FellDue old new outcome
PowerLeft ending.Off old new = (old.on ≡ false) × (new ≡ old)
