use Rattle.std.proofs.Common.{◌∙◌, ap}
use Rattle.std.specs.Ordering.{nat_cmp}
use Rattle.std.specs.FinMap as map
use Rattle.std.specs.FinMap.{get-empty}
use Rattle.bench_map.proofs.measured.SparseMapU64Measured.empty.Goals as goal

pub returns : goal.returns
returns c = λ q. ap (λ t. map.get t q) c.new.ensures.empty ∙ get-empty nat_cmp q
