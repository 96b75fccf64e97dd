use Rattle.std.proofs.Common.{◌≡◌, refl, rules, sym}
use Rattle.flashtier_words.specs.declared.devices.Parity.TheVariants.{On}
use Rattle.flashtier_run.proofs.RunsLemmas.{rises_beneath, runs_over_parity, runs_same}
use Rattle.flashtier_run.proofs.over.run_counted.Goals as goal

pub returns : goal.returns
returns g c =
    let before = c.since-over.result in
    let after = c.run_command-status.new.rig in
    let beneath : before.rig.now ≡ c.args.rig.now = c.since-over.ensures.rig in
    let same_rig : after.rig.ghost_name ≡ before.rig.ghost_name = (let lent = c.run_command-status.ensures.lent.rig_lent in cc) in
    runs_same g.R.Media.state On c.args.command c.run_command-status.result _ _ _ _ before.rig.now after.rig.now _ _ _ _ _ _ (sym beneath) (search (rules, same_rig))
    (runs_over_parity (λ s. s.rig.now) c.args.command c.run_command-status.result _ _ _ _ before after _ _ _ _ _ _ (g.R.Media.state before.rig.now) (g.R.Media.state after.rig.now)
    (record { contents = refl; parity = c.parity_laws.ensures.full; counts = refl; power = refl; disk = refl; name = before.rig.ghost_name; lent = refl })
    (record { contents = refl; parity = c.parity_laws-2.ensures.full; counts = refl; power = refl; disk = refl; name = after.rig.ghost_name; lent = refl })
    (rises_beneath g.K.Start.flash g.K.Start.cuts after.tally _ _ _ _ (rw beneath c.requires.flash) (rw beneath c.requires.cuts) c.since-over.ensures.failed c.since-over.ensures.cuts after.beneath refl refl)
    c.run_command-status.ensures)
