-- What a command sets its volume up with.
use Rattle.flashtier_words.specs.declared.command.Command.{Command}
use Rattle.flashtier_words.specs.declared.command.Command.TheVariants.{Replay, Cost, Gen, Inspect, Sweep}
use Rattle.cache_run.specs.declared.setup.Setup.{Setup}

-- the mode and the options that a command says
abbrev pub setup_in : Command → Setup
setup_in (Replay mode options form disks) = record { mode = mode; options = options }
setup_in (Cost mode options form) = record { mode = mode; options = options }
setup_in (Gen mode options number count) = record { mode = mode; options = options }
setup_in (Inspect mode options) = record { mode = mode; options = options }
setup_in (Sweep mode options outcome) = record { mode = mode; options = options }
