use Rattle.std.proofs.Common.{codes, map, refl}
use Rattle.std.specs.String.{string_bytes}
use Rattle.flashtier_words.specs.Matching.{value_of}
use Rattle.flashtier_words.proofs.ValueLemmas.{form_along, no_read_form, no_read_volume, say_along}
use Rattle.flashtier_words.proofs.DeviceLemmas.{cost_among, over_from}
use Rattle.flashtier_words.specs.Command.{cost_names, value_in}
use Rattle.ft_volume.specs.Volume.{told_for}
use Rattle.flashtier_words.proofs.command.cost_command.Goals as goal

pub returns-in_default-volume_of-clause-none : goal.returns-in_default-volume_of-clause-none
returns-in_default-volume_of-clause-none c =
    let (settings, spelled, values) = rw c.in-Some.is at c.in_ok-matches.ensures.some in
    no_read_volume cost_names refl (map string_bytes c.args.others.now) settings (value_of c.in-Some.matches) values spelled (codes "cost") (rw c.in_default-volume_of.is at c.volume_of.ensures.none)

pub returns-in_default-form_of-clause-none : goal.returns-in_default-form_of-clause-none
returns-in_default-form_of-clause-none c =
    let (settings, spelled, values) = rw c.in-Some.is at c.in_ok-matches.ensures.some in
    no_read_form cost_names refl (map string_bytes c.args.others.now) settings (value_of c.in-Some.matches) values spelled (codes "cost") (rw c.in_default-form_of.is at c.form_of.ensures.none)

pub returns-clause-command : goal.returns-clause-command
returns-clause-command c =
    let (settings, spelled, values) = rw c.in-Some.is at c.in_ok-matches.ensures.some in
    let others = map string_bytes c.args.others.now in
    let value = value_of c.in-Some.matches in
    let said = c.in-Some-volume_of in
    let read = c.in-Some-form_of in
    let (says, devices) = said.ensures.some in
    record {
      command =
          record {
            others = others;
            first = refl;
            settings = settings;
            spelled = spelled;
            says = say_along value (value_in settings) (told_for said.mode said.options) values says;
            spelling = form_along value (value_in settings) read.form values read.ensures.some;
          };
      devices = over_from cost_names others settings value said.devices cost_among spelled values devices (codes "cost");
    }
