-- Whether words are a command.
use Rattle.std.specs.Prelude.{◌≡◌, ◌⊎◌, ℕ, List}
use Rattle.ft_base.specs.Told.{Told}
use Rattle.ft_base.specs.declared.power.Outcome.{Outcome}
use Rattle.flashtier_words.specs.Command.{IsCommand, IsCost, IsGen, IsInspect, IsOver, IsSweep, Text}
use Rattle.flashtier_words.specs.declared.command.TraceForm.{TraceForm}
use Rattle.flashtier_words.specs.declared.devices.Devices.{Devices}
use Rattle.flashtier_words.specs.declared.devices.FlashKind.{FlashKind}

-- the words are a sweep of a trace, whatever a power cut leaves in it
abbrev pub IsAnySweep : List Text → Told → Type 0
IsAnySweep words o = (outcome : Outcome) × IsSweep words o outcome

-- the words ask for the cost of a trace, whatever the form of its lines
abbrev pub IsAnyCost : List Text → Told → Type 0
IsAnyCost words o = (form : TraceForm) × IsCost words o form

-- the words are a command that reads a trace: to run it, to tell what it leaves in the cache or what it cost, or to sweep it
abbrev pub ReadsTrace : List Text → Told → Type 0
ReadsTrace words o = IsCommand words o ⊎ (IsInspect words o ⊎ (IsAnySweep words o ⊎ IsAnyCost words o))

-- the words are a command: over a trace that is read or a made one
abbrev pub AreCommand : List Text → Type 0
AreCommand words = ((o : Told) × ReadsTrace words o) ⊎ ((o : Told) × (number : ℕ) × (count : ℕ) × IsGen words o number count)

-- they say flash of this kind
abbrev pub AreOverFlash : FlashKind → List Text → Type 0
AreOverFlash kind words = (devices : Devices) × IsOver words devices × (devices.flash ≡ kind)
