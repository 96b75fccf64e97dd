use Rattle.std.proofs.Common.{map, refl}
use Rattle.std.specs.String.{string_bytes}
use Rattle.flashtier_words.specs.Matching.{value_of}
use Rattle.flashtier_words.proofs.ValueLemmas.{no_command, say_along}
use Rattle.flashtier_words.proofs.DeviceLemmas.{over_from, run_among}
use Rattle.flashtier_words.specs.Command.{option_names, value_in}
use Rattle.ft_volume.specs.Volume.{told_for}
use Rattle.flashtier_words.proofs.command.run_of.Goals as goal

pub returns-in_default-volume_of-clause-none : goal.returns-in_default-volume_of-clause-none
returns-in_default-volume_of-clause-none c =
    let (settings, spelled, values) = rw c.in-Some.is at c.in_ok-matches.ensures.some in
    no_command (map string_bytes c.args.others.now) settings (value_of c.in-Some.matches) values spelled (rw c.in_default-volume_of.is at c.volume_of.ensures.none)

pub returns-clause-some : goal.returns-clause-some
returns-clause-some c = λ word.
    let (settings, spelled, values) = rw c.in-Some.is at c.in_ok-matches.ensures.some in
    let others = map string_bytes c.args.others.now in
    let value = value_of c.in-Some.matches in
    let said = c.in-Some-volume_of.said in
    let (says, devices) = c.in-Some-volume_of.ensures.some in (
      record { others = others; first = refl; settings = settings; spelled = spelled; says = say_along value (value_in settings) (told_for said.0 said.1) values says },
      over_from option_names others settings value said.2 run_among spelled values devices word,
    )
