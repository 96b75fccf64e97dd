use Rattle.std.proofs.Common.{arith}
use Rattle.sparse_map.proofs.RankLemmas.{ones_at_most_64}
use Rattle.sparse_map.proofs.group.Group.move_to.Goals as goal

pub move_items-requires : goal.move_items-requires
move_items-requires g c = grind (arith, ones_at_most_64 c.args.self.now.occupied c.args.self.now.fits)
