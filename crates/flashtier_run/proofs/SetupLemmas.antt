-- A command, by what it sets its volume up with.
use Rattle.std.proofs.Common.{◌≡◌, ◌∙◌, ap, sym}
use Rattle.ft_base.specs.declared.told.Mode.{Mode}
use Rattle.ft_volume.specs.declared.options.Options.{Options}
use Rattle.cache_run.specs.declared.setup.Setup.{Setup}
use Rattle.flashtier_words.specs.declared.command.Command.{Command}
use Rattle.flashtier_run.specs.Setup.{setup_in}

-- a command of some kind is the one of this kind over its setup
pub by_setup : {command : Command} {setup : Setup} {mode : Mode} {options : Options} (kind : Mode → Options → Command)
    → ((m : Mode) (o : Options) → setup_in (kind m o) ≡ record { mode = m; options = o })
    → command ≡ kind mode options → setup ≡ setup_in command → command ≡ kind setup.mode setup.options
by_setup {mode = mode} {options = options} kind says is same =
    is ∙ ap (λ (s : Setup). kind s.mode s.options) (sym (same ∙ ap setup_in is ∙ says mode options))
