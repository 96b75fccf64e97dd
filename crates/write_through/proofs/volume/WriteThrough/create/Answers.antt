use Rattle.ft_volume.specs.Opening.{nothing_held}
use Rattle.write_through.proofs.VolumeLemmas.{through_opened}
use Rattle.write_through.proofs.volume.WriteThrough.create.Goals as goal

pub returns-in-Ok-clause-opened : goal.returns-in-Ok-clause-opened
returns-in-Ok-clause-opened g c = through_opened c.args.options.now nothing_held c.in-Ok.disk (g.R.Media.state c.create.new.media).contents c.in-Ok.ensures.owns c.in-Ok.ensures.opened
