use Rattle.sparse_map.proofs.GroupLemmas.{slots-none}
use Rattle.sparse_map.proofs.group.Group.with_places.Goals as goal

pub returns-clause-slots : goal.returns-clause-slots
returns-clause-slots g c = slots-none c.in_ok-items.items.items
