use Rattle.std.proofs.Common.{◌∙◌, ap}
use Rattle.std.specs.FinMap as map
use Rattle.sparse_map.specs.Packed.{map_of}
use Rattle.bench_map.proofs.MapLemmas.{get-inserted}
use Rattle.bench_map.proofs.measured.SparseMapU64Measured.set.Goals as goal

pub returns : goal.returns
returns c = λ q. get-inserted (map_of c.args.self.now) (map_of c.insert_ready.new.self) c.args.key c.args.value q (c.insert_ready.ensures.map ∙ ap (λ m. map.insert m c.args.key c.args.value) c.reserve.ensures.map)
