use Rattle.write_through.proofs.VolumeLemmas.{through_opened}
use Rattle.write_through.proofs.volume.WriteThrough.open.Goals as goal

pub returns-clause-opened : goal.returns-clause-opened
returns-clause-opened g c =
    let opened = c.in_ok-disk.ensures.opened in
    record {
      opened = λ s stands. through_opened c.args.options.now s c.in_ok-disk.disk (g.R.Media.state c.open.new.media).contents c.in_ok-disk.ensures.owns (opened.opened s stands);
      told = opened.told;
      up = opened.up;
      loads = opened.loads;
    }
