use Rattle.std.proofs.Common.{codes, map, refl}
use Rattle.std.specs.String.{string_bytes}
use Rattle.flashtier_words.specs.Matching.{value_of}
use Rattle.flashtier_words.proofs.ValueLemmas.{made_along, no_gen_made, no_gen_volume, say_along}
use Rattle.flashtier_words.proofs.DeviceLemmas.{over_from, gen_among}
use Rattle.flashtier_words.specs.Command.{gen_names, value_in}
use Rattle.ft_volume.specs.Volume.{told_for}
use Rattle.flashtier_words.proofs.command.gen_command.Goals as goal

pub returns-in_default-volume_of-clause-none : goal.returns-in_default-volume_of-clause-none
returns-in_default-volume_of-clause-none c =
    let (settings, spelled, values) = rw c.in-Some.is at c.in_ok-matches.ensures.some in
    no_gen_volume (map string_bytes c.args.others.now) settings (value_of c.in-Some.matches) values spelled (rw c.in_default-volume_of.is at c.volume_of.ensures.none)

pub returns-in_default-made_of-clause-none : goal.returns-in_default-made_of-clause-none
returns-in_default-made_of-clause-none c =
    let (settings, spelled, values) = rw c.in-Some.is at c.in_ok-matches.ensures.some in
    no_gen_made (map string_bytes c.args.others.now) settings (value_of c.in-Some.matches) values spelled (rw c.in_default-made_of.is at c.made_of.ensures.none)

pub returns-clause-command : goal.returns-clause-command
returns-clause-command c =
    let (settings, spelled, values) = rw c.in-Some.is at c.in_ok-matches.ensures.some in
    let others = map string_bytes c.args.others.now in
    let value = value_of c.in-Some.matches in
    let said = c.in-Some-volume_of in
    let made = c.in-Some-made_of in
    let (says, devices) = said.ensures.some in
    record {
      command =
          record {
            others = others;
            first = refl;
            settings = settings;
            spelled = spelled;
            says = say_along value (value_in settings) (told_for said.mode said.options) values says;
            made = made_along value (value_in settings) made.number made.count values made.ensures.some;
          };
      devices = over_from gen_names others settings value said.devices gen_among spelled values devices (codes "gen");
    }
