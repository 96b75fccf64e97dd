-- Which calls of a device fail, and how a device write ends.
use Rattle.std.specs.Prelude.{◌≡◌, ◌==◌, ◌≤◌, ℕ, Bool, true, false, List, if◌then◌else◌}
use Rattle.std.specs.List.{list_any}
use Rattle.ft_base.specs.Count.{bumped, last_count}
use Rattle.device_calls.specs.declared.calls.Calls.{Calls}
use Rattle.device_calls.specs.declared.ending.Current.{Current}
use Rattle.device_calls.specs.declared.ending.Current.TheVariants as current
use Rattle.device_calls.specs.declared.ending.Ending.{Ending}
use Rattle.device_calls.specs.declared.ending.Ending.TheVariants as ending

-- how many calls were made, how many of them were faults, and the numbers of the calls that fail
abbrev pub calls_made : Calls → ℕ
calls_made calls = calls.made

abbrev pub fault_count : Calls → ℕ
fault_count calls = calls.faults

abbrev pub failing_numbers : Calls → List ℕ
failing_numbers calls = calls.failing.items

-- the number of the next call, from 1
abbrev pub next_number : Calls → ℕ
next_number calls = bumped calls.made

-- the next number is listed: the call fails, unless power stops it
abbrev pub is_listed : Calls → Bool
is_listed calls = list_any (λ n. n == next_number calls) (failing_numbers calls)

-- each device write is counted, except one that finds power off
abbrev pub made_after : Ending → ℕ → ℕ
made_after ending.Off made = made
made_after other made = bumped made

-- how a device write ends, if its number is listed and if it isn't
abbrev pub ending_of : Current → Bool → Ending
ending_of current.Off listed = ending.Off
ending_of (current.Stops outcome) listed = ending.Cut outcome
ending_of current.On true = ending.Failed
ending_of current.On false = ending.Done

-- a device write that failed is a fault
abbrev pub faults_after : Ending → ℕ → ℕ
faults_after ending.Failed faults = bumped faults
faults_after ending faults = faults

-- a count of the device writes of one kind that were done
abbrev pub bumped_if_done : Ending → ℕ → ℕ
bumped_if_done ending.Done count = bumped count
bumped_if_done ending count = count

-- a device write with this ending changes the count of calls like this
pub record CountsWrite (ending : Ending) (old new : Calls) : Type 0 where
  pub made : calls_made new ≡ made_after ending (calls_made old)
  pub faults : fault_count new ≡ faults_after ending (fault_count old)
  pub failing : failing_numbers new ≡ failing_numbers old

-- a read changes the count of calls like this, if it failed and if it didn't
pub record CountsRead (fails : Bool) (old new : Calls) : Type 0 where
  pub made : calls_made new ≡ bumped (calls_made old)
  pub faults : fault_count new ≡ (if fails then bumped (fault_count old) else fault_count old)
  pub failing : failing_numbers new ≡ failing_numbers old

-- the count of faults fits its type
pub faults_small : (calls : Calls) → fault_count calls ≤ last_count
faults_small calls = calls.faults_small
