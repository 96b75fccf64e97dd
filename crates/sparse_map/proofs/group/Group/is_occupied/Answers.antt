use Rattle.sparse_map.proofs.GroupLemmas.{is_taken}
use Rattle.sparse_map.proofs.group.Group.is_occupied.Goals as goal

pub returns : goal.returns
returns g c = is_taken c.args.self.now c.args.k c.requires
