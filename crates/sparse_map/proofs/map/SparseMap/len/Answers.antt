use Rattle.sparse_map.proofs.ViewLemmas.{seen_len, seen_sound}
use Rattle.sparse_map.proofs.map.SparseMap.len.Goals as goal

pub returns-clause-len : goal.returns-clause-len
returns-clause-len g c = seen_len c.self.inside c.args.self.now c.self.invariant.table c.self.view_is

pub returns-clause-sound : goal.returns-clause-sound
returns-clause-sound g c = seen_sound c.self.inside c.args.self.now c.self.invariant.table c.self.view_is
