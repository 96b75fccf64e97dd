use Rattle.std.proofs.Common.{ap, eqb}
use Rattle.sparse_map.proofs.ViewLemmas.{seen_len}
use Rattle.sparse_map.proofs.map.SparseMap.is_empty.Goals as goal

pub returns : goal.returns
returns g c = ap (λ n. eqb n 0) (seen_len c.self.inside c.args.self.now c.self.invariant.table c.self.view_is)
