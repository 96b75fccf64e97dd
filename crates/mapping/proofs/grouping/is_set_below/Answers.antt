use Rattle.mapping.proofs.GroupFits.{set_below}
use Rattle.mapping.proofs.grouping.is_set_below.Goals as goal

pub returns : goal.returns
returns c = set_below c.args.set c.args.geometry.now.p
