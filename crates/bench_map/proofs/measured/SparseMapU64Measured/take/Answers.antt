use Rattle.sparse_map.specs.Packed.{map_of}
use Rattle.bench_map.proofs.MapLemmas.{get-removed}
use Rattle.bench_map.proofs.measured.SparseMapU64Measured.take.Goals as goal

pub returns-clause-content : goal.returns-clause-content
returns-clause-content c = λ q. get-removed (map_of c.args.self.now) (map_of c.remove.new.self) c.args.key q c.remove.ensures.map
