-- The words that a command is given by, and the devices that it runs over.
use Rattle.std.specs.Prelude.{List}
use Rattle.ft_volume.specs.Volume.{told_for}
use Rattle.flashtier_words.specs.Command.{IsCost, IsGen, IsInspect, IsOver, IsReplay, IsSweep, Text}
use Rattle.flashtier_words.specs.declared.command.Command.{Command}
use Rattle.flashtier_words.specs.declared.command.Command.TheVariants.{Replay, Cost, Gen, Inspect, Sweep}
use Rattle.flashtier_words.specs.declared.devices.Spoken.{Spoken}

-- the words say this command
abbrev pub AreWordsOf : List Text → Command → Type 0
AreWordsOf words (Replay mode options form disks) = IsReplay words (told_for mode options) form disks
AreWordsOf words (Cost mode options form) = IsCost words (told_for mode options) form
AreWordsOf words (Gen mode options number count) = IsGen words (told_for mode options) number count
AreWordsOf words (Inspect mode options) = IsInspect words (told_for mode options)
AreWordsOf words (Sweep mode options outcome) = IsSweep words (told_for mode options) outcome

-- the words say this command over these devices
pub record AreWordsFor (words : List Text) (spoken : Spoken) : Type 0 where
  pub command : AreWordsOf words spoken.command
  pub devices : IsOver words spoken.devices
